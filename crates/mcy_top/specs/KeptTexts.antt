-- A sink that keeps what is written to it, as its callers see it.
use Rattle.std.specs.Prelude.{ℕ, List}

-- For proofs alone.

pub record Kept : Type 0 where
  -- what was written
  pub text : List ℕ
  -- how many writes found no memory
  pub faults : ℕ
