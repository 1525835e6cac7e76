use Rattle.process_latches.proofs.Common.{add-one, arith, names_of, Whole, Bit, Range, Indexed}
use Rattle.process_latches.proofs.Fitting.{is_name, is_bit, is_range, is_indexed}
use Rattle.process_latches.proofs.Parts.{parts_more}
use Rattle.process_latches.proofs.left.+parts.Goals as goal

pub mark_left-mark_part-requires-clause-part : goal.mark_left-mark_part-requires-clause-part
mark_left-mark_part-requires-clause-part t c = (record { name = c.in-Name.name; select = Whole }, is_name c.args.left.now c.in-Name.name c.in-Name.is)

pub mark_left-mark_part-requires-in-BitSelect-clause-part : goal.mark_left-mark_part-requires-in-BitSelect-clause-part
mark_left-mark_part-requires-in-BitSelect-clause-part t c = (record { name = c.in-BitSelect.name; select = Bit c.in-BitSelect.field-1 c.in-BitSelect.field-2 }, is_bit c.args.left.now c.in-BitSelect.name c.in-BitSelect.field-1 c.in-BitSelect.field-2 c.in-BitSelect.is)

pub mark_left-mark_part-requires-in-PartSelect-clause-part : goal.mark_left-mark_part-requires-in-PartSelect-clause-part
mark_left-mark_part-requires-in-PartSelect-clause-part t c = (record { name = c.in-PartSelect.name; select = Range c.in-PartSelect.field-1 c.in-PartSelect.field-2 c.in-PartSelect.field-3 }, is_range c.args.left.now c.in-PartSelect.name c.in-PartSelect.field-1 c.in-PartSelect.field-2 c.in-PartSelect.field-3 c.in-PartSelect.is)

pub mark_left-mark_part-requires-in-IndexedPartSelect-clause-part : goal.mark_left-mark_part-requires-in-IndexedPartSelect-clause-part
mark_left-mark_part-requires-in-IndexedPartSelect-clause-part t c = (record { name = c.in-IndexedPartSelect.name; select = Indexed c.in-IndexedPartSelect.field-1 c.in-IndexedPartSelect.field-2 c.in-IndexedPartSelect.field-3 }, is_indexed c.args.left.now c.in-IndexedPartSelect.name c.in-IndexedPartSelect.field-1 c.in-IndexedPartSelect.field-2 c.in-IndexedPartSelect.field-3 c.in-IndexedPartSelect.is)

pub mark_lefts-loop-left-preserved : goal.mark_lefts-loop-left-preserved
mark_lefts-loop-left-preserved t c = rw add-one (parts_more (names_of c.args.scope.now) c.args.manner c.args.lefts.now c.loop-left.left-index c.left-item.result _ _ _ c.left-item.is (omega arith) c.loop-left.invariant c.in_ok-mark_left.ensures)
