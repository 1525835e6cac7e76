-- What a tester is asked, and what stays the same of it.
use Rattle.std.specs.Prelude.{◌≡◌, ℕ, ◌<◌, ◌≤◌, List, length, slice_get, false, IsSomeAnd}
use Rattle.result_book.specs.Campaigns.{IsWordOfKind, is_sim}

-- A test of a mutation, under a bound. That of a simulation plays no part.
pub record Asked : Type 0 where
  pub mutation : ℕ
  pub test : ℕ
  pub bound : ℕ

-- There are such a mutation and such a test, where these are the kinds of the tests, and a proof test has a bound from 1 to 100,000.
pub record IsAskable (mutations : ℕ) (kinds : List ℕ) (asked : Asked) : Type 0 where
  pub mutation : asked.mutation < mutations
  pub test : asked.test < length kinds
  pub bound : is_sim (slice_get kinds asked.test) ≡ false → (1 ≤ asked.bound) × (asked.bound ≤ 100000)

-- the word is one of the kind of this test
abbrev pub IsWordIn : List ℕ → ℕ → ℕ → Type 0
IsWordIn kinds test word = IsSomeAnd (slice_get kinds test) (λ kind. IsWordOfKind kind word)

-- the tests that were asked may give the same words
pub record GivesTheSame (old new : Asked → ℕ → Type 0) : Type 0 where
  pub on : (asked : Asked) (word : ℕ) → old asked word → new asked word
  pub back : (asked : Asked) (word : ℕ) → new asked word → old asked word

-- What no call of a tester changes: the number of mutations, the kinds of the tests, which words they may give, and after how many turns.
pub record IsSame (mutations mutations' : ℕ) (kinds kinds' : List ℕ) (gives gives' : Asked → ℕ → Type 0) (most most' : Asked → ℕ) : Type 0 where
  pub mutations_are : mutations' ≡ mutations
  pub kinds_are : kinds' ≡ kinds
  pub gives_are : GivesTheSame gives gives'
  pub most_are : (asked : Asked) → most' asked ≡ most asked
