-- How sums of bits are counted.
use Rattle.std.specs.Prelude.{ℕ, ◌-◌, ◌^◌, min}

-- a number past what 64 bits hold is told as the greatest that they hold
abbrev pub counted : ℕ → ℕ
counted n = min n (2 ^ 64 - 1)
