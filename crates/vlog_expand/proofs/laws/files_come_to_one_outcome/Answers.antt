use Rattle.vlog_expand.proofs.OneOutcome.{files_come_to_one_outcome_lem}
use Rattle.vlog_expand.proofs.laws.files_come_to_one_outcome.Goals as goal

pub returns : goal.returns
returns c = files_come_to_one_outcome_lem
