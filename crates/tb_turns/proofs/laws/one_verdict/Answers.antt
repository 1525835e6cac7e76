use Rattle.tb_turns.proofs.Words.{verdicts_agree}
use Rattle.tb_turns.proofs.laws.one_verdict.Goals as goal

pub returns : goal.returns
returns c = verdicts_agree c.simulations_agree.ensures
