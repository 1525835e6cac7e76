-- A partial assignment as a table by variable.
use Rattle.std.specs.Prelude.{◌≢◌, ℕ, ◌<◌, Bool, List, length, Option, None, slice_index_or, Contains, All}
use Rattle.clause_store.specs.Propagation.{Known}

-- the value of each variable, and none for a number past the table's end
abbrev pub known_of : List (Option Bool) → Known
known_of table = λ v. slice_index_or table v None

-- For proofs alone.

-- each variable with a value is on the list, and the list names variables of the table alone
pub record AreListed (table : List (Option Bool)) (assigned : List ℕ) : Type 0 where
  pub listed : (v : ℕ) → slice_index_or table v None ≢ None → Contains assigned v
  pub named : All (λ v. v < length table) assigned
