use Rattle.equiv_test.proofs.Common.{◌≡◌, ℕ, ◌<◌, slice_get}
use Rattle.equiv_test.proofs.place.first_register.Given as goal

abbrev pub invariant-loop-place : goal.invariant-loop-place
invariant-loop-place l = (j : ℕ) → j < l.place → slice_get l.original.registers j ≡ slice_get l.mutant.registers j
