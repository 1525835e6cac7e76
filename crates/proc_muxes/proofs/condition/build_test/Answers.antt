use Rattle.proc_muxes.proofs.Common.{left_nil, these_nil}
use Rattle.proc_muxes.proofs.condition.build_test.Goals as goal

pub shape_of-shape-requires : goal.shape_of-shape-requires
shape_of-shape-requires c = left_nil _ _ (these_nil _ _ c.requires.clear)
