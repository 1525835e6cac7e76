-- Why a fault comes.
use Rattle.std.specs.Prelude.{ℕ, ◌+◌, ◌-◌, ◌^◌, ◌≤◌, min, nat_lt, if◌then◌else◌}

-- the count of faults has risen, or stands at its type's end
abbrev pub Rose : ℕ → ℕ → Type 0
Rose before now = min (before + 1) (2 ^ 64 - 1) ≤ now

-- The count never falls, and a fault is told only where it rose.
pub record IsCaused (before now : ℕ) (is_fault : Type 0) : Type 0 where
  pub later : before ≤ now
  pub failed : is_fault → Rose before now

-- For proofs alone.

-- a count with one fault more, which stays at its type's end
abbrev pub one_more : ℕ → ℕ
one_more faults = if nat_lt faults (2 ^ 64 - 1) then faults + 1 else faults
