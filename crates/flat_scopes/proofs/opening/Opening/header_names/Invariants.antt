use Rattle.flat_scopes.proofs.Common.{◌≡◌, [], drop, header_names, opened_of}
use Rattle.flat_scopes.proofs.opening.Opening.header_names.Given as goal

abbrev pub invariant-loop-name : goal.invariant-loop-name
invariant-loop-name l = header_names (opened_of l.self) l.seen (drop l.name-index l.names) ≡ header_names (opened_of l.initial.self) [] l.names
