-- Words: unsigned numbers of a width.
use Rattle.std.specs.Prelude.{ℕ, ◌<◌, ◌≤◌, ◌^◌}

-- a word has from 1 to 128 bits, and its number is below 2 ^ width
pub record IsWord (width bits : ℕ) : Type 0 where
  pub some : 1 ≤ width
  pub narrow : width ≤ 128
  pub fits : bits < 2 ^ width
