use Rattle.proc_muxes.proofs.Common.{left_nil, these_nil}
use Rattle.proc_muxes.proofs.assignment.build_right.Goals as goal

pub shape_of-own-requires : goal.shape_of-own-requires
shape_of-own-requires c = left_nil _ _ (these_nil _ _ c.requires.clear)
