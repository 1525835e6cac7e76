use Rattle.signal_masks.proofs.Common.{rules, sym, refl, add-one, arith, ◌∙◌, the_lemmas, names_of}
use Rattle.signal_masks.proofs.Placing.{fit_name, bit_sized, fit_bit, range_sized, fit_range, indexed_sized, fit_indexed, fit_joined, fit_element, cover_name, cover_bit, cover_bit_none, cover_part}
use Rattle.signal_masks.proofs.Placing.{cover_indexed, cover_indexed_none, cover_joined, more_covers, or_end}
use Rattle.signal_masks.proofs.writes.+covers.Goals as goal

pub covered_by-name_bits-requires : goal.covered_by-name_bits-requires
covered_by-name_bits-requires t c = fit_name (names_of c.args.scope.now) c.args.left.now c.requires c.in-Name.name c.in-Name.is

pub covered_by-integer_of-requires : goal.covered_by-integer_of-requires
covered_by-integer_of-requires t c = rw c.get-index.ensures (fit_bit (names_of c.args.scope.now) c.args.left.now c.requires c.in-BitSelect.name c.in-BitSelect.field-1 c.in-BitSelect.index c.in-BitSelect.is)

pub covered_by-part_bits-requires-clause-sized : goal.covered_by-part_bits-requires-clause-sized
covered_by-part_bits-requires-clause-sized t c = bit_sized (names_of c.args.scope.now) c.args.left.now c.requires c.in-BitSelect.name c.in-BitSelect.field-1 c.in-BitSelect.index c.in-BitSelect.is

pub covered_by-part_bits-requires-clause-small : goal.covered_by-part_bits-requires-clause-small
covered_by-part_bits-requires-clause-small t c = c.integer_of.ensures.small

pub covered_by-integer_of-lsb-requires : goal.covered_by-integer_of-lsb-requires
covered_by-integer_of-lsb-requires t c = rw c.get.ensures (fit_range (names_of c.args.scope.now) c.args.left.now c.requires c.in-PartSelect.name c.in-PartSelect.field-1 c.in-PartSelect.msb c.in-PartSelect.lsb c.in-PartSelect.is).1

pub covered_by-integer_of-requires-in-PartSelect : goal.covered_by-integer_of-requires-in-PartSelect
covered_by-integer_of-requires-in-PartSelect t c = rw c.get-in-PartSelect.ensures (fit_range (names_of c.args.scope.now) c.args.left.now c.requires c.in-PartSelect.name c.in-PartSelect.field-1 c.in-PartSelect.msb c.in-PartSelect.lsb c.in-PartSelect.is).0

pub covered_by-part_width-size-requires : goal.covered_by-part_width-size-requires
covered_by-part_width-size-requires t c = record { narrow = rw (c.integer_of-in-PartSelect.ensures.value, c.get-in-PartSelect.ensures, c.integer_of-lsb.ensures.value, c.get.ensures) (fit_range (names_of c.args.scope.now) c.args.left.now c.requires c.in-PartSelect.name c.in-PartSelect.field-1 c.in-PartSelect.msb c.in-PartSelect.lsb c.in-PartSelect.is).2 }

pub covered_by-part_bits-requires-in-PartSelect-clause-sized : goal.covered_by-part_bits-requires-in-PartSelect-clause-sized
covered_by-part_bits-requires-in-PartSelect-clause-sized t c = range_sized (names_of c.args.scope.now) c.args.left.now c.requires c.in-PartSelect.name c.in-PartSelect.field-1 c.in-PartSelect.msb c.in-PartSelect.lsb c.in-PartSelect.is

pub covered_by-part_bits-requires-in-PartSelect-clause-small : goal.covered_by-part_bits-requires-in-PartSelect-clause-small
covered_by-part_bits-requires-in-PartSelect-clause-small t c = c.integer_of-lsb.ensures.small

pub covered_by-count_of-size-requires-clause-whole : goal.covered_by-count_of-size-requires-clause-whole
covered_by-count_of-size-requires-clause-whole t c = rw c.get-then-is_constant-2.ensures (fit_indexed (names_of c.args.scope.now) c.args.left.now c.requires c.in-IndexedPartSelect.name c.in-IndexedPartSelect.field-1 c.in-IndexedPartSelect.base c.in-IndexedPartSelect.count c.in-IndexedPartSelect.is).1

pub covered_by-count_of-size-requires-clause-narrow : goal.covered_by-count_of-size-requires-clause-narrow
covered_by-count_of-size-requires-clause-narrow t c = rw c.get-then-is_constant-2.ensures (fit_indexed (names_of c.args.scope.now) c.args.left.now c.requires c.in-IndexedPartSelect.name c.in-IndexedPartSelect.field-1 c.in-IndexedPartSelect.base c.in-IndexedPartSelect.count c.in-IndexedPartSelect.is).2

pub covered_by-integer_of-requires-then-is_constant-2 : goal.covered_by-integer_of-requires-then-is_constant-2
covered_by-integer_of-requires-then-is_constant-2 t c = rw c.get-base.ensures (fit_indexed (names_of c.args.scope.now) c.args.left.now c.requires c.in-IndexedPartSelect.name c.in-IndexedPartSelect.field-1 c.in-IndexedPartSelect.base c.in-IndexedPartSelect.count c.in-IndexedPartSelect.is).0

pub covered_by-part_bits-requires-then-is_constant-2-clause-sized : goal.covered_by-part_bits-requires-then-is_constant-2-clause-sized
covered_by-part_bits-requires-then-is_constant-2-clause-sized t c = indexed_sized (names_of c.args.scope.now) c.args.left.now c.requires c.in-IndexedPartSelect.name c.in-IndexedPartSelect.field-1 c.in-IndexedPartSelect.base c.in-IndexedPartSelect.count c.in-IndexedPartSelect.is

pub covered_by-part_bits-requires-then-is_constant-2-clause-small : goal.covered_by-part_bits-requires-then-is_constant-2-clause-small
covered_by-part_bits-requires-then-is_constant-2-clause-small t c = c.integer_of-then-is_constant-2.ensures.small

pub covered_by-covered_by_all-requires : goal.covered_by-covered_by_all-requires
covered_by-covered_by_all-requires t c = (search (rules, the_lemmas), rw c.as_slice.ensures (fit_joined (names_of c.args.scope.now) c.args.left.now c.requires c.in-Concatenation.field-0 c.in-Concatenation.parts c.in-Concatenation.is))

pub covered_by-returns-in_ok-name_bits-in-Name : goal.covered_by-returns-in_ok-name_bits-in-Name
covered_by-returns-in_ok-name_bits-in-Name t c = λ n i. cover_name (names_of c.args.scope.now) c.args.left.now n i _ _ c.in-Name.name c.in-Name.is (c.in_ok-name_bits-in-Name.ensures n i)

pub covered_by-returns-in_ok-part_bits-in-BitSelect : goal.covered_by-returns-in_ok-part_bits-in-BitSelect
covered_by-returns-in_ok-part_bits-in-BitSelect t c = λ n i. cover_bit (names_of c.args.scope.now) c.args.left.now n i _ _ c.in-BitSelect.name c.in-BitSelect.field-1 c.in-BitSelect.index _ c.in-BitSelect.is (sym (rw c.get-index.ensures at c.is_constant.ensures) ∙ c.if-is_constant.true) (rw c.get-index.ensures at c.integer_of.ensures.value) (c.in_ok-part_bits-in-BitSelect.ensures n i)

pub covered_by-returns-else-is_constant : goal.covered_by-returns-else-is_constant
covered_by-returns-else-is_constant t c = λ n i. cover_bit_none (names_of c.args.scope.now) c.args.left.now n i _ _ c.in-BitSelect.name c.in-BitSelect.field-1 c.in-BitSelect.index c.in-BitSelect.is (sym (rw c.get-index.ensures at c.is_constant.ensures) ∙ c.if-is_constant.false) refl

pub covered_by-returns-in_ok-part_bits-in-PartSelect : goal.covered_by-returns-in_ok-part_bits-in-PartSelect
covered_by-returns-in_ok-part_bits-in-PartSelect t c = λ n i. cover_part (names_of c.args.scope.now) c.args.left.now n i _ _ c.in-PartSelect.name c.in-PartSelect.field-1 c.in-PartSelect.msb c.in-PartSelect.lsb _ _ c.in-PartSelect.is (rw c.get.ensures at c.integer_of-lsb.ensures.value) (c.part_width-size.ensures ∙ rw (c.integer_of-in-PartSelect.ensures.value, c.get-in-PartSelect.ensures, c.integer_of-lsb.ensures.value, c.get.ensures) refl) (c.in_ok-part_bits-in-PartSelect.ensures n i)

pub covered_by-returns-in_ok-part_bits-in-IndexedPartSelect : goal.covered_by-returns-in_ok-part_bits-in-IndexedPartSelect
covered_by-returns-in_ok-part_bits-in-IndexedPartSelect t c = λ n i. cover_indexed (names_of c.args.scope.now) c.args.left.now n i _ _ c.in-IndexedPartSelect.name c.in-IndexedPartSelect.field-1 c.in-IndexedPartSelect.base c.in-IndexedPartSelect.count _ _ c.in-IndexedPartSelect.is (sym (rw c.get-base.ensures at c.is_constant-in-IndexedPartSelect.ensures) ∙ c.if-is_constant-2.true) (rw c.get-base.ensures at c.integer_of-then-is_constant-2.ensures.value) (rw c.get-then-is_constant-2.ensures at c.count_of-size.ensures) (c.in_ok-part_bits-in-IndexedPartSelect.ensures n i)

pub covered_by-returns-else-is_constant-2 : goal.covered_by-returns-else-is_constant-2
covered_by-returns-else-is_constant-2 t c = λ n i. cover_indexed_none (names_of c.args.scope.now) c.args.left.now n i _ _ c.in-IndexedPartSelect.name c.in-IndexedPartSelect.field-1 c.in-IndexedPartSelect.base c.in-IndexedPartSelect.count c.in-IndexedPartSelect.is (sym (rw c.get-base.ensures at c.is_constant-in-IndexedPartSelect.ensures) ∙ c.if-is_constant-2.false) refl

pub covered_by-returns-in_ok-covered_by_all-in-Concatenation : goal.covered_by-returns-in_ok-covered_by_all-in-Concatenation
covered_by-returns-in_ok-covered_by_all-in-Concatenation t c = λ n i. cover_joined (names_of c.args.scope.now) c.args.left.now n i _ _ c.in-Concatenation.field-0 c.in-Concatenation.parts c.in-Concatenation.is ((rw c.as_slice.ensures at c.in_ok-covered_by_all-in-Concatenation.ensures) n i)

pub covered_by_all-covered_by-requires : goal.covered_by_all-covered_by-requires
covered_by_all-covered_by-requires t c = (search (rules, the_lemmas), fit_element (names_of c.args.scope.now) c.args.parts.now c.loop-part.part-index c.part-item.result c.part-item.is (omega arith) c.requires)

pub covered_by_all-loop-part-init : goal.covered_by_all-loop-part-init
covered_by_all-loop-part-init t c = λ n i. sym (or_end _)

pub covered_by_all-loop-part-preserved : goal.covered_by_all-loop-part-preserved
covered_by_all-loop-part-preserved t c = λ n i. rw add-one (more_covers (names_of c.args.scope.now) c.args.parts.now c.loop-part.part-index c.part-item.result n i _ _ _ c.part-item.is (omega arith) (c.loop-part.invariant n i) (c.in_ok-covered_by.ensures n i))
