use Rattle.flat_scopes.proofs.Common.{◌≡◌, drop, all_ports, opened_of}
use Rattle.flat_scopes.proofs.opening.Opening.all_ports.Given as goal

abbrev pub invariant-loop-declaration : goal.invariant-loop-declaration
invariant-loop-declaration l = all_ports l.head (opened_of l.self) (drop l.declaration-index l.declarations) ≡ all_ports l.head (opened_of l.initial.self) l.declarations
