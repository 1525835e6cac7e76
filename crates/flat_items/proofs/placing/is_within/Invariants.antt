use Rattle.flat_items.proofs.Common.{◌≡◌, drop, is_within}
use Rattle.flat_items.proofs.placing.is_within.Given as goal

abbrev pub invariant-loop-one : goal.invariant-loop-one
invariant-loop-one l = is_within l.number (drop l.one-index l.within) ≡ is_within l.number l.within
