use Rattle.flat_scopes.proofs.Common.{◌≡◌, drop, given_value}
use Rattle.flat_scopes.proofs.values.given_value.Given as goal

abbrev pub invariant-loop-one : goal.invariant-loop-one
invariant-loop-one l = given_value (drop l.one-index l.given) l.name ≡ given_value l.given l.name
