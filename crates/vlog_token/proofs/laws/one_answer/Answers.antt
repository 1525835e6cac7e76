use Rattle.vlog_token.proofs.AnswerLemmas.{one_answer_only}
use Rattle.vlog_token.proofs.laws.one_answer.Goals as goal

pub returns : goal.returns
returns c = one_answer_only
