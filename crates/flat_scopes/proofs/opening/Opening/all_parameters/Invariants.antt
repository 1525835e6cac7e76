use Rattle.flat_scopes.proofs.Common.{◌≡◌, drop, names_of, all_parameters, opened_of}
use Rattle.flat_scopes.proofs.opening.Opening.all_parameters.Given as goal

abbrev pub invariant-loop-declaration : goal.invariant-loop-declaration
invariant-loop-declaration l = all_parameters l.head (names_of l.outside) (opened_of l.self) (drop l.declaration-index l.declarations) ≡ all_parameters l.head (names_of l.outside) (opened_of l.initial.self) l.declarations
