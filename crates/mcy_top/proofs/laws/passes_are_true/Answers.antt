use Rattle.mcy_top.proofs.PassRows.{good_tell}
use Rattle.mcy_top.proofs.laws.passes_are_true.Goals as goal

pub returns : goal.returns
returns c = good_tell
