use Rattle.flat_clocks.proofs.Common.{refl, add-one, arith, None, left_reads, names_in}
use Rattle.flat_clocks.proofs.Firsts.{more}
use Rattle.flat_clocks.proofs.Expressions.{name_left, bit_left, part_left, indexed_left, concatenation_left}
use Rattle.flat_clocks.proofs.reads.+left.Goals as goal

pub left_read-returns-in-Name : goal.left_read-returns-in-Name
left_read-returns-in-Name t c = name_left (names_in c.args.names.now) c.args.left.now None c.in-Name.field-0 c.in-Name.is

pub left_read-returns-in-BitSelect : goal.left_read-returns-in-BitSelect
left_read-returns-in-BitSelect t c = bit_left (names_in c.args.names.now) c.args.left.now c.expr_read.result c.in-BitSelect.field-0 c.in-BitSelect.field-1 c.in-BitSelect.index _ c.in-BitSelect.is c.get.ensures c.expr_read.ensures

pub left_read-returns-in-PartSelect : goal.left_read-returns-in-PartSelect
left_read-returns-in-PartSelect t c = part_left (names_in c.args.names.now) c.args.left.now c.pair_read.result c.in-PartSelect.field-0 c.in-PartSelect.field-1 c.in-PartSelect.msb c.in-PartSelect.lsb _ _ c.in-PartSelect.is c.get-in-PartSelect.ensures c.get-in-PartSelect-2.ensures c.pair_read.ensures

pub left_read-returns-in-IndexedPartSelect : goal.left_read-returns-in-IndexedPartSelect
left_read-returns-in-IndexedPartSelect t c = indexed_left (names_in c.args.names.now) c.args.left.now c.pair_read-in-IndexedPartSelect.result c.in-IndexedPartSelect.field-0 c.in-IndexedPartSelect.field-1 c.in-IndexedPartSelect.base c.in-IndexedPartSelect.width _ _ c.in-IndexedPartSelect.is c.get-in-IndexedPartSelect.ensures c.get-in-IndexedPartSelect-2.ensures c.pair_read-in-IndexedPartSelect.ensures

pub left_read-returns-in-Concatenation : goal.left_read-returns-in-Concatenation
left_read-returns-in-Concatenation t c = concatenation_left (names_in c.args.names.now) c.args.left.now c.lefts_read.result c.in-Concatenation.field-0 c.in-Concatenation.parts _ c.in-Concatenation.is c.as_slice.ensures c.lefts_read.ensures

pub lefts_read-loop-part-preserved : goal.lefts_read-loop-part-preserved
lefts_read-loop-part-preserved t c = rw add-one (more (left_reads (names_in c.args.names.now)) c.args.parts.now c.loop-part.part-index c.part-item.result c.loop-part.found c.left_read.result c.earlier-found.result c.part-item.is (omega arith) c.loop-part.invariant c.left_read.ensures c.earlier-found.ensures)

pub lefts_read-loop-part-init : goal.lefts_read-loop-part-init
lefts_read-loop-part-init t c = refl
