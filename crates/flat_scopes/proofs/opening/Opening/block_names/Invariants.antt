use Rattle.flat_scopes.proofs.Common.{◌≡◌, drop, block_names, opened_of}
use Rattle.flat_scopes.proofs.opening.Opening.block_names.Given as goal

abbrev pub invariant-loop-label : goal.invariant-loop-label
invariant-loop-label l = block_names (opened_of l.self) (drop l.label-index l.labels) ≡ block_names (opened_of l.initial.self) l.labels
