use Rattle.sat_solver.proofs.Common.{ℕ, ◌<◌, ◌≤◌, All, Contains}
use Rattle.sat_solver.proofs.focus.all_bits.Given as goal

abbrev pub invariant-loop-v : goal.invariant-loop-v
invariant-loop-v l = record {
  range : All (λ v. (0 < v) × (v ≤ l.free)) l.bits.items;
  all : (v : ℕ) → 0 < v → v ≤ l.v → Contains l.bits.items v;
}
