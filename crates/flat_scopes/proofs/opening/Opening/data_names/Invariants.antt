use Rattle.flat_scopes.proofs.Common.{◌≡◌, drop, data_names, opened_of}
use Rattle.flat_scopes.proofs.opening.Opening.data_names.Given as goal

abbrev pub invariant-loop-name : goal.invariant-loop-name
invariant-loop-name l = data_names l.head (opened_of l.self) l.typed (drop l.name-index l.names) ≡ data_names l.head (opened_of l.initial.self) l.typed l.names
