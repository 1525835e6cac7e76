use Rattle.flat_scopes.proofs.Common.{◌≡◌, drop}
use Rattle.flat_scopes.specs.Openings.{is_among}
use Rattle.flat_scopes.proofs.opening.is_among.Given as goal

abbrev pub invariant-loop-one : goal.invariant-loop-one
invariant-loop-one l = is_among (drop l.one-index l.names) l.name ≡ is_among l.names l.name
