use Rattle.elab_proc.proofs.Forms.{left_once}
use Rattle.elab_proc.proofs.laws.left_sides_are_one.Goals as goal

pub returns : goal.returns
returns c = left_once
