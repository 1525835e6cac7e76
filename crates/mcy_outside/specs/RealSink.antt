-- A sink over a writer, as its callers see it, and what a write does.
use Rattle.std.specs.Prelude.{◌≡◌, ℕ, List, ◌++◌, Option, Result, OnOk, OnErr, is_ok, if◌then◌else◌}
use Rattle.std.specs.Io.KnownBytes.{Appends}
use Rattle.mcy_base.specs.Causes.{one_more}

pub record Wrapped : Type 0 where
  -- the bytes that the writer holds, where it says it
  pub contents : Option (List ℕ)
  -- how many calls have failed
  pub faults : ℕ

-- For proofs alone.

-- what the writer holds, where it says it, grew by the text up to this rest of it
abbrev pub Moves : Option (List ℕ) → Option (List ℕ) → List ℕ → List ℕ → Type 0
Moves before now text rest = (front : List ℕ) × (text ≡ front ++ rest) × Appends before now front

-- what a write of a piece does: the writer holds all of it, or a first part at a failure, which is counted
pub record Passes {T E : Type 0} (old new : Wrapped) (piece : List ℕ) (result : Result T E) : Type 0 where
  pub done : OnOk result (Appends old.contents new.contents piece)
  pub part : OnErr result ((rest : List ℕ) × Moves old.contents new.contents piece rest)
  pub faults : new.faults ≡ (if is_ok result then old.faults else one_more old.faults)
