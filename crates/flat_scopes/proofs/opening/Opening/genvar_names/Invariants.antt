use Rattle.flat_scopes.proofs.Common.{◌≡◌, drop, genvar_names, opened_of}
use Rattle.flat_scopes.proofs.opening.Opening.genvar_names.Given as goal

abbrev pub invariant-loop-name : goal.invariant-loop-name
invariant-loop-name l = genvar_names (opened_of l.self) (drop l.name-index l.names) ≡ genvar_names (opened_of l.initial.self) l.names
