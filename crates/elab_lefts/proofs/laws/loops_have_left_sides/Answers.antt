use Rattle.elab_lefts.proofs.Covering.{built_are_covered}
use Rattle.elab_lefts.proofs.laws.loops_have_left_sides.Goals as goal

pub returns : goal.returns
returns c = built_are_covered
