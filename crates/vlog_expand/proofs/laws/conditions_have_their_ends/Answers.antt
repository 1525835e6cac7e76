use Rattle.vlog_expand.proofs.Closing.{conditions_have_their_ends_lem}
use Rattle.vlog_expand.proofs.laws.conditions_have_their_ends.Goals as goal

pub returns : goal.returns
returns c = conditions_have_their_ends_lem
