-- Which nets were gone through on the way round loops.
use Rattle.std.specs.Prelude.{◌≡◌, ◌⊎◌, ℕ, ◌≤◌, Bool, true, List, slice_index_or}
use Rattle.net_builder.specs.declared.steps.Step.{Step}
use Rattle.net_builder.specs.declared.steps.Step.TheVariants.{On}
use Rattle.net_builder.specs.Finished.{IsOnLoop}

-- For proofs alone.

abbrev pub seen_in : List Bool → ℕ → Bool
seen_in seen n = slice_index_or seen n true

-- No net that was gone through and is on a loop is less than the least so far; and after a net the next one was gone
-- through, but where that one has the property.
pub record IsRound (next : ℕ → Step) (seen : List Bool) (found : ℕ) (IsLeft : ℕ → Type 0) : Type 0 where
  pub least : (n : ℕ) → seen_in seen n ≡ true → IsOnLoop next n → found ≤ n
  pub closed : (n m : ℕ) → seen_in seen n ≡ true → next n ≡ On m → IsLeft m ⊎ (seen_in seen m ≡ true)

abbrev pub IsClosed : (ℕ → Step) → List Bool → ℕ → Type 0
IsClosed next seen least = IsRound next seen least (λ m. ⊥)
