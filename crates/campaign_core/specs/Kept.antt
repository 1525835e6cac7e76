-- What holds of the parts of a core, beside what its callers see.
use Rattle.std.specs.Prelude.{◌≡◌, ℕ, ◌≤◌, List, Option, None, Some, length, sum, if◌then◌else◌}
use Rattle.mcy_keeper.specs.declared.book.Entry.{Entry}
use Rattle.result_book.specs.declared.campaign.Campaign.{Campaign}
use Rattle.result_book.specs.declared.goal.Want.{Want}
use Rattle.result_book.specs.Goals.{is_given_up}
use Rattle.result_book.specs.Rows.{answers_of, bound_in}
use Rattle.result_book.specs.Scripts.{each_from, word_in}
use Rattle.campaign_core.specs.declared.seat.Seat.{Seat}
use Rattle.campaign_core.specs.Seats.{AreJobs}
use Rattle.campaign_core.specs.Testers.{Asked}
use Rattle.campaign_core.specs.Turns.{Turns, waiting}
use Rattle.campaign_core.specs.UnderWay.{IsUnderWay}

-- how many rows more a run with this limit may add of a test with this last word and bound
abbrev pub rows_left : ℕ → Option ℕ → Option ℕ → ℕ
rows_left limit None bound = 2
rows_left limit (Some word) None = 0
rows_left limit (Some word) (Some bound) = if is_given_up limit word bound then 1 else 0

-- of a test on a mutation, of all tests on it, and of all
abbrev pub test_left : ℕ → List Entry → ℕ → ℕ → ℕ
test_left limit rows m t = rows_left limit (word_in (answers_of m rows) t) (bound_in m t rows)

abbrev pub mutation_left : Campaign → ℕ → List Entry → ℕ → ℕ
mutation_left c limit rows m = sum (each_from (test_left limit rows m) 0 (length c.kinds))

-- For proofs alone.

abbrev pub all_left : Campaign → ℕ → List Entry → ℕ
all_left c limit rows = sum (each_from (mutation_left c limit rows) 0 (length c.mutations))

-- The parts of a core that callers see so: its jobs are its tester's, what the mutations wait for is known, there is room for all rows
-- that it may add, and the tester is one for its campaign.
pub record IsKept {T J : Type 0} (mutations : ℕ) (kinds : List ℕ) (gives : Asked → ℕ → Type 0) (has : J → Type 0) (asked : J → Asked) (word : J → Option ℕ) (slots : List (Option (Seat J))) (wants : List (Option Want)) (s : Turns T) : Type 0 where
  pub order : IsUnderWay gives s
  pub jobs : AreJobs has asked word slots
  pub wants_are : wants ≡ waiting s
  pub room : all_left s.campaign s.goal.retry s.state.rows ≤ s.state.spare
  pub mutations_are : mutations ≡ length s.campaign.mutations
  pub kinds_are : kinds ≡ s.campaign.kinds
