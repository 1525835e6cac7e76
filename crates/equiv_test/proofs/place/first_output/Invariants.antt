use Rattle.equiv_test.proofs.Common.{◌≡◌, ℕ, ◌<◌, slice_get, plain, shown, settled_nets}
use Rattle.equiv_test.proofs.place.first_output.Given as goal

abbrev pub invariant-loop-place : goal.invariant-loop-place
invariant-loop-place l = (j : ℕ) → j < l.place → slice_get (shown (plain (settled_nets l.original)) l.original.plan.raw) j ≡ slice_get (shown (plain (settled_nets l.mutant)) l.mutant.plan.raw) j
