use Rattle.proc_muxes.proofs.Common.{rules, add-one, arith, the_lemmas, names_of}
use Rattle.proc_muxes.proofs.Piecing.{can-element, width-fits, width-next}
use Rattle.proc_muxes.proofs.piece.+width.Goals as goal

pub left_widths-left_width-width-requires : goal.left_widths-left_width-width-requires
left_widths-left_width-width-requires t c =
    let fits = width-fits (names_of c.args.scope.now) c.args.parts.now c.loop-part.part-index c.part-item.result 128 c.part-item.is c.loop-part-test.true c.requires.narrow in
    (search (rules, the_lemmas), (can-element (names_of c.args.scope.now) c.args.parts.now c.loop-part.part-index c.part-item.result c.part-item.is c.loop-part-test.true c.requires.can, omega (arith, fits)))

pub left_widths-overflow_add-width : goal.left_widths-overflow_add-width
left_widths-overflow_add-width t c =
    let fits = width-fits (names_of c.args.scope.now) c.args.parts.now c.loop-part.part-index c.part-item.result 128 c.part-item.is c.loop-part-test.true c.requires.narrow in
    omega (arith, fits, c.loop-part.invariant, c.left_width-width.ensures)

pub left_widths-loop-part-preserved : goal.left_widths-loop-part-preserved
left_widths-loop-part-preserved t c =
    let next = width-next (names_of c.args.scope.now) c.args.parts.now c.loop-part.part-index c.part-item.result c.part-item.is c.loop-part-test.true in
    rw add-one (omega (arith, next, c.loop-part.invariant, c.left_width-width.ensures))
