use Rattle.std.proofs.Common.{◌<◌, ◌≤◌}
use Rattle.std.specs.Prelude.{All}
use Rattle.clause_cone.proofs.cone.add_reached.Given as goal

abbrev pub invariant-loop-v : goal.invariant-loop-v
invariant-loop-v l = All (λ v. (0 < v) × (v ≤ l.free)) l.bits.items
