-- How phases end.
use Rattle.std.specs.Prelude.{Bool, true, false}
use Rattle.tb_machine.specs.declared.phase_end.PhaseEnd.{PhaseEnd}
use Rattle.tb_machine.specs.declared.phase_end.PhaseEnd.TheVariants as e

-- a fact where the phase was not the last one
abbrev pub IfGoing : PhaseEnd → Type 0 → Type 0
IfGoing e.Going fact = fact
IfGoing e.Finished fact = Unit {0}
IfGoing e.TooLong fact = Unit {0}

-- For proofs alone.

-- whether `$finish` was reached
abbrev pub finishes : PhaseEnd → Bool
finishes e.Going = false
finishes e.Finished = true
finishes e.TooLong = false
