use Rattle.cycle_sim.proofs.Common.{◌≡◌, ℕ, ◌*◌, ◌<◌, ◌≤◌, mark_at}
use Rattle.cycle_sim.proofs.marks.first_marked.Given as goal

abbrev pub invariant-loop-at : goal.invariant-loop-at
invariant-loop-at l = (k : ℕ) → 64 * l.word ≤ k → k < 64 * l.at → mark_at l.marks k ≡ 0
