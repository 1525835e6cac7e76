use Rattle.tb_formulas.proofs.Common.{arith, names_of, element_whole}
use Rattle.tb_formulas.proofs.building.total_width.Goals as goal

pub shape_of-total-requires-in-loop-part : goal.shape_of-total-requires-in-loop-part
shape_of-total-requires-in-loop-part c = element_whole (names_of c.args.scope.now) c.args.parts.now c.loop-part.part-index c.part-item.result c.part-item.is (omega arith) c.requires.whole
