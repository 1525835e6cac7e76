use Rattle.flat_scopes.proofs.Common.{◌≡◌, drop, first_taken, opened_of}
use Rattle.flat_scopes.proofs.opening.Opening.first_taken.Given as goal

abbrev pub invariant-loop-label : goal.invariant-loop-label
invariant-loop-label l = first_taken (opened_of l.self) (drop l.label-index l.labels) ≡ first_taken (opened_of l.self) l.labels
