use Rattle.flat_scopes.proofs.Common.{drop, names_of, Opened, Opens, opened_of}
use Rattle.flat_scopes.proofs.opening.Opening.+items.Given as goal

abbrev pub invariant-open_items-loop-item : goal.invariant-open_items-loop-item
invariant-open_items-loop-item l = (last : Opened) → Opens l.head (names_of l.outside) (opened_of l.self) (drop l.item-index l.items) last → Opens l.head (names_of l.outside) (opened_of l.initial.self) l.items last
