use Rattle.cycle_sim.proofs.Common.{◌≡◌, ℕ, length, take, Contains, mark_at}
use Rattle.cycle_sim.proofs.marks.mark_all.Given as goal

abbrev pub invariant-loop-place : goal.invariant-loop-place
invariant-loop-place l = record {
  long : length l.marks.items ≡ length l.initial.marks.items;
  marked : (k : ℕ) → Contains (take l.place-index l.places) k → mark_at l.marks.items k ≡ 1;
  others : (k : ℕ) → ¬ Contains (take l.place-index l.places) k → mark_at l.marks.items k ≡ mark_at l.initial.marks.items k;
}
