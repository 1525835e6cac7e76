use Rattle.flat_scopes.proofs.Common.{◌≡◌, drop, port_names, opened_of}
use Rattle.flat_scopes.proofs.opening.Opening.port_names.Given as goal

abbrev pub invariant-loop-name : goal.invariant-loop-name
invariant-loop-name l = port_names l.head (opened_of l.self) l.typed l.direction (drop l.name-index l.names) ≡ port_names l.head (opened_of l.initial.self) l.typed l.direction l.names
