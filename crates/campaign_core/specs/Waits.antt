-- How the least mutation that waits is found: the mutations stand in blocks, and of each block the least that waits is known.
use Rattle.std.specs.Prelude.{◌≡◌, ℕ, ◌+◌, ◌*◌, ◌<◌, ◌≤◌, ◌^◌, true, List, length, slice_get, Option, None, Some, is_some, option_and_then}
use Rattle.result_book.specs.declared.goal.Want.{Want}

-- For proofs alone.

-- what a mutation waits for, where there is such a mutation
abbrev pub want_at : List (Option Want) → ℕ → Option Want
want_at wants m = option_and_then (λ want. want) (slice_get wants m)

-- none of the mutations from one to before another waits
abbrev pub NoneWaits : List (Option Want) → ℕ → ℕ → Type 0
NoneWaits wants from to = (m : ℕ) → from ≤ m → m < to → want_at wants m ≡ None

-- the mutation is the least of these that waits
pub record IsLeast (wants : List (Option Want)) (from to m : ℕ) : Type 0 where
  pub low : from ≤ m
  pub high : m < to
  pub waits : is_some (want_at wants m) ≡ true
  pub none_before : NoneWaits wants from m

-- the least of these that waits, or none where none does
abbrev pub IsLead : List (Option Want) → ℕ → ℕ → Option ℕ → Type 0
IsLead wants from to None = NoneWaits wants from to
IsLead wants from to (Some m) = IsLeast wants from to m

-- how many mutations a block has
abbrev pub block_size : ℕ
block_size = 128

-- the leads are those of the blocks, and each mutation is in a block
pub record AreLeads (wants : List (Option Want)) (leads : List (Option ℕ)) : Type 0 where
  pub enough : length wants ≤ block_size * length leads
  pub few : length wants < 2 ^ 32
  pub each : (b : ℕ) (lead : Option ℕ) → slice_get leads b ≡ Some lead → IsLead wants (block_size * b) (block_size * b + block_size) lead
