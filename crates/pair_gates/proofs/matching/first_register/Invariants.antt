use Rattle.pair_gates.proofs.Common.{◌≡◌, ℕ, ◌<◌, slice_get, registers_named}
use Rattle.pair_gates.proofs.matching.first_register.Given as goal

abbrev pub invariant-loop-place : goal.invariant-loop-place
invariant-loop-place l = (j : ℕ) → j < l.place → slice_get (registers_named l.others) j ≡ slice_get (registers_named l.registers) j
