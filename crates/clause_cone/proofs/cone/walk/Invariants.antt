use Rattle.std.proofs.Common.{◌<◌, ◌≤◌}
use Rattle.std.specs.Prelude.{All}
use Rattle.clause_cone.proofs.cone.walk.Given as goal

abbrev pub invariant-loop-step : goal.invariant-loop-step
invariant-loop-step l = All (λ v. (0 < v) × (v ≤ l.free)) l.bits.items
