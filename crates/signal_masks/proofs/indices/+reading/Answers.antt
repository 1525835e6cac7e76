use Rattle.signal_masks.proofs.Common.{rules, sym, refl, add-one, arith, the_lemmas, names_of}
use Rattle.signal_masks.proofs.Placing.{fit_bit, fit_indexed, fit_joined, fit_element, or_end}
use Rattle.signal_masks.proofs.Indexing.{index_name, index_range, index_bit, index_indexed, index_joined, more_indices}
use Rattle.signal_masks.proofs.indices.+reading.Goals as goal

pub indices_of-reads_of-requires : goal.indices_of-reads_of-requires
indices_of-reads_of-requires t c = rw c.get.ensures (fit_bit (names_of c.args.scope.now) c.args.left.now c.requires c.in-BitSelect.field-0 c.in-BitSelect.field-1 c.in-BitSelect.index c.in-BitSelect.is)

pub indices_of-reads_of-requires-in-IndexedPartSelect : goal.indices_of-reads_of-requires-in-IndexedPartSelect
indices_of-reads_of-requires-in-IndexedPartSelect t c = rw c.get-in-IndexedPartSelect.ensures (fit_indexed (names_of c.args.scope.now) c.args.left.now c.requires c.in-IndexedPartSelect.field-0 c.in-IndexedPartSelect.field-1 c.in-IndexedPartSelect.base c.in-IndexedPartSelect.field-3 c.in-IndexedPartSelect.is).0

pub indices_of-indices_of_all-requires : goal.indices_of-indices_of_all-requires
indices_of-indices_of_all-requires t c = (search (rules, the_lemmas), rw c.as_slice.ensures (fit_joined (names_of c.args.scope.now) c.args.left.now c.requires c.in-Concatenation.field-0 c.in-Concatenation.parts c.in-Concatenation.is))

pub indices_of-returns-in-Name : goal.indices_of-returns-in-Name
indices_of-returns-in-Name t c = λ n i. index_name (names_of c.args.scope.now) c.args.left.now n i _ _ c.in-Name.field-0 c.in-Name.is refl

pub indices_of-returns-in-PartSelect : goal.indices_of-returns-in-PartSelect
indices_of-returns-in-PartSelect t c = λ n i. index_range (names_of c.args.scope.now) c.args.left.now n i _ _ c.in-PartSelect.field-0 c.in-PartSelect.field-1 c.in-PartSelect.field-2 c.in-PartSelect.field-3 c.in-PartSelect.is refl

pub indices_of-returns-in_ok-reads_of-in-BitSelect : goal.indices_of-returns-in_ok-reads_of-in-BitSelect
indices_of-returns-in_ok-reads_of-in-BitSelect t c = λ n i. index_bit (names_of c.args.scope.now) c.args.left.now n i _ _ c.in-BitSelect.field-0 c.in-BitSelect.field-1 c.in-BitSelect.index c.in-BitSelect.is ((rw c.get.ensures at c.in_ok-reads_of-in-BitSelect.ensures) n i)

pub indices_of-returns-in_ok-reads_of-in-IndexedPartSelect : goal.indices_of-returns-in_ok-reads_of-in-IndexedPartSelect
indices_of-returns-in_ok-reads_of-in-IndexedPartSelect t c = λ n i. index_indexed (names_of c.args.scope.now) c.args.left.now n i _ _ c.in-IndexedPartSelect.field-0 c.in-IndexedPartSelect.field-1 c.in-IndexedPartSelect.base c.in-IndexedPartSelect.field-3 c.in-IndexedPartSelect.is ((rw c.get-in-IndexedPartSelect.ensures at c.in_ok-reads_of-in-IndexedPartSelect.ensures) n i)

pub indices_of-returns-in_ok-indices_of_all-in-Concatenation : goal.indices_of-returns-in_ok-indices_of_all-in-Concatenation
indices_of-returns-in_ok-indices_of_all-in-Concatenation t c = λ n i. index_joined (names_of c.args.scope.now) c.args.left.now n i _ _ c.in-Concatenation.field-0 c.in-Concatenation.parts c.in-Concatenation.is ((rw c.as_slice.ensures at c.in_ok-indices_of_all-in-Concatenation.ensures) n i)

pub indices_of_all-indices_of-requires : goal.indices_of_all-indices_of-requires
indices_of_all-indices_of-requires t c = (search (rules, the_lemmas), fit_element (names_of c.args.scope.now) c.args.parts.now c.loop-part.part-index c.part-item.result c.part-item.is (omega arith) c.requires)

pub indices_of_all-loop-part-init : goal.indices_of_all-loop-part-init
indices_of_all-loop-part-init t c = λ n i. sym (or_end _)

pub indices_of_all-loop-part-preserved : goal.indices_of_all-loop-part-preserved
indices_of_all-loop-part-preserved t c = λ n i. rw add-one (more_indices (names_of c.args.scope.now) c.args.parts.now c.loop-part.part-index c.part-item.result n i _ _ _ c.part-item.is (omega arith) (c.loop-part.invariant n i) (c.in_ok-indices_of.ensures n i))
