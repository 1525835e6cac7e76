-- Stores of signals.
use Rattle.std.specs.Prelude.{◌≡◌, ℕ, ◌<◌, ◌^◌, List, length, slice_index}

-- For proofs alone.

-- the values of signals of these widths
pub record AreValues (widths store : List ℕ) : Type 0 where
  pub long : length store ≡ length widths
  pub within : (k : ℕ) → slice_index store k < 2 ^ slice_index widths k
