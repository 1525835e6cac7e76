use Rattle.tb_nets.proofs.Common.{rules, sym, refl, add-one, arith, names_of, or_end, fit_element}
use Rattle.vlog_syntax.specs.declared.left_side.LeftSide.TheViews.{the_lemmas}
use Rattle.tb_nets.proofs.Opens.{bit_sized, indexed_sized, fit_joined, open_name, open_range, open_bit, open_indexed, open_joined, more_open}
use Rattle.tb_nets.proofs.lefts.+opening.Goals as goal

pub opened_by-add_open-requires : goal.opened_by-add_open-requires
opened_by-add_open-requires t c = bit_sized (names_of c.args.scope.now) c.args.left.now c.requires c.in-BitSelect.name c.in-BitSelect.field-1 c.in-BitSelect.index c.in-BitSelect.is

pub opened_by-add_open-requires-in-IndexedPartSelect : goal.opened_by-add_open-requires-in-IndexedPartSelect
opened_by-add_open-requires-in-IndexedPartSelect t c = indexed_sized (names_of c.args.scope.now) c.args.left.now c.requires c.in-IndexedPartSelect.name c.in-IndexedPartSelect.field-1 c.in-IndexedPartSelect.base c.in-IndexedPartSelect.field-3 c.in-IndexedPartSelect.is

pub opened_by-opened_by_all-requires : goal.opened_by-opened_by_all-requires
opened_by-opened_by_all-requires t c = (search (rules, the_lemmas), rw c.as_slice.ensures (fit_joined (names_of c.args.scope.now) c.args.left.now c.requires c.in-Concatenation.field-0 c.in-Concatenation.parts c.in-Concatenation.is))

pub opened_by-returns-in-Name : goal.opened_by-returns-in-Name
opened_by-returns-in-Name t c = λ n i. open_name (names_of c.args.scope.now) c.args.left.now n i _ _ c.in-Name.field-0 c.in-Name.is refl

pub opened_by-returns-in-PartSelect : goal.opened_by-returns-in-PartSelect
opened_by-returns-in-PartSelect t c = λ n i. open_range (names_of c.args.scope.now) c.args.left.now n i _ _ c.in-PartSelect.field-0 c.in-PartSelect.field-1 c.in-PartSelect.field-2 c.in-PartSelect.field-3 c.in-PartSelect.is refl

pub opened_by-returns-in_ok-add_open-in-BitSelect : goal.opened_by-returns-in_ok-add_open-in-BitSelect
opened_by-returns-in_ok-add_open-in-BitSelect t c = λ n i. open_bit (names_of c.args.scope.now) c.args.left.now n i _ _ c.in-BitSelect.name c.in-BitSelect.field-1 c.in-BitSelect.index c.in-BitSelect.is ((rw c.get.ensures at c.in_ok-add_open-in-BitSelect.ensures) n i)

pub opened_by-returns-in_ok-add_open-in-IndexedPartSelect : goal.opened_by-returns-in_ok-add_open-in-IndexedPartSelect
opened_by-returns-in_ok-add_open-in-IndexedPartSelect t c = λ n i. open_indexed (names_of c.args.scope.now) c.args.left.now n i _ _ c.in-IndexedPartSelect.name c.in-IndexedPartSelect.field-1 c.in-IndexedPartSelect.base c.in-IndexedPartSelect.field-3 c.in-IndexedPartSelect.is ((rw c.get-in-IndexedPartSelect.ensures at c.in_ok-add_open-in-IndexedPartSelect.ensures) n i)

pub opened_by-returns-in_ok-opened_by_all-in-Concatenation : goal.opened_by-returns-in_ok-opened_by_all-in-Concatenation
opened_by-returns-in_ok-opened_by_all-in-Concatenation t c = λ n i. open_joined (names_of c.args.scope.now) c.args.left.now n i _ _ c.in-Concatenation.field-0 c.in-Concatenation.parts c.in-Concatenation.is ((rw c.as_slice.ensures at c.in_ok-opened_by_all-in-Concatenation.ensures) n i)

pub opened_by_all-opened_by-requires : goal.opened_by_all-opened_by-requires
opened_by_all-opened_by-requires t c = (search (rules, the_lemmas), fit_element (names_of c.args.scope.now) c.args.parts.now c.loop-part.part-index c.part-item.result c.part-item.is (omega arith) c.requires)

pub opened_by_all-loop-part-init : goal.opened_by_all-loop-part-init
opened_by_all-loop-part-init t c = λ n i. sym (or_end _)

pub opened_by_all-loop-part-preserved : goal.opened_by_all-loop-part-preserved
opened_by_all-loop-part-preserved t c = λ n i. rw add-one (more_open (names_of c.args.scope.now) c.args.parts.now c.loop-part.part-index c.part-item.result n i _ _ _ c.part-item.is (omega arith) (c.loop-part.invariant n i) (c.in_ok-opened_by.ensures n i))
