use Rattle.flat_instances.proofs.Common.{◌≡◌, drop, first_of}
use Rattle.flat_instances.proofs.giving.first_refused.Given as goal

abbrev pub invariant-loop-error : goal.invariant-loop-error
invariant-loop-error l = first_of l.first (drop l.error-index l.refused) ≡ first_of l.initial.first l.refused
