use Rattle.vlog_meaning.proofs.Common.{ap, arith, add-one, names_of, Shape}
use Rattle.vlog_meaning.proofs.Results.{total_take}
use Rattle.vlog_meaning.proofs.Whole.{element_whole}
use Rattle.vlog_meaning.proofs.once.sum_of_widths.Goals as goal

pub shape_of-requires-in-loop-part : goal.shape_of-requires-in-loop-part
shape_of-requires-in-loop-part c = element_whole (names_of c.args.scope.now) c.args.parts.now c.loop-part.part-index c.part-item.result c.part-item.is (omega arith) c.requires

pub loop-part-preserved : goal.loop-part-preserved
loop-part-preserved c =
    let more = total_take (names_of c.args.scope.now) c.args.parts.now c.loop-part.part-index c.part-item.result c.part-item.is (omega arith) in
    let width = ap (λ (s : Shape). s.width) c.shape_of.ensures.shape in
    let narrow = c.shape_of.ensures.sized.narrow in
    (rw (add-one, more) (omega (arith, c.from-total.ensures, c.loop-part.invariant.0, width)), omega (arith, c.from-total.ensures, narrow, c.loop-part.invariant.1))
