-- A campaign under way: tests in slots, which take turns.
use Rattle.std.specs.Prelude.{◌≡◌, ℕ, Bool, false, ◌==◌, List, length, slice_get, count_by, Option, None, Some, is_some, if◌then◌else◌}
use Rattle.std.specs.List.{list_any}
use Rattle.mcy_keeper.specs.declared.book.Entry.{Entry}
use Rattle.result_book.specs.declared.campaign.Campaign.{Campaign}
use Rattle.result_book.specs.declared.goal.Goal.{Goal}
use Rattle.result_book.specs.declared.goal.Want.{Want}
use Rattle.result_book.specs.Goals.{wanted}
use Rattle.result_book.specs.Scripts.{each_from}
use Rattle.result_book.specs.States.{Progress}
use Rattle.campaign_core.specs.Testers.{Asked}

-- a test under way: what was asked, its word once it has one, and how many turns without a word it has left at most
pub record Busy : Type 0 where
  pub asked : Asked
  pub word : Option ℕ
  pub left : ℕ

-- a campaign under way, as its callers see it
pub record Turns (T : Type 0) : Type 0 where
  pub campaign : Campaign
  pub goal : Goal
  pub tester : T
  -- what is known of the book
  pub state : Progress
  -- the test in each slot; none where the slot is free
  pub slots : List (Option Busy)
  -- the slot that is looked at first for the next event
  pub first : ℕ
  -- how many rows were added, and how many tests were started
  pub acknowledged : ℕ
  pub started : ℕ
  pub is_stopped : Bool

-- the slot is free
abbrev pub IsFree : List (Option Busy) → ℕ → Type 0
IsFree slots slot = slice_get slots slot ≡ Some None

-- the slot has this test
abbrev pub IsIn : List (Option Busy) → ℕ → Busy → Type 0
IsIn slots slot busy = slice_get slots slot ≡ Some (Some busy)

abbrev pub is_of : ℕ → Option Busy → Bool
is_of m None = false
is_of m (Some busy) = busy.asked.mutation == m

-- the mutation is in a slot
abbrev pub is_in_slot : ℕ → List (Option Busy) → Bool
is_in_slot m slots = list_any (is_of m) slots

-- how many slots are busy
abbrev pub busy_count : List (Option Busy) → ℕ
busy_count slots = count_by is_some slots

module _ {T : Type 0} where
  -- what a mutation waits for: what the run wants of it, while it is in no slot
  abbrev pub waits_for : Turns T → ℕ → Option Want
  waits_for s m = if is_in_slot m s.slots then None else wanted s.campaign s.state.rows m s.goal

  -- what each mutation waits for
  abbrev pub waiting : Turns T → List (Option Want)
  waiting s = each_from (waits_for s) 0 (length s.campaign.mutations)

-- For proofs alone.

-- what a run wants of each mutation
abbrev pub all_wanted : Campaign → List Entry → Goal → List (Option Want)
all_wanted c rows goal = each_from (λ m. wanted c rows m goal) 0 (length c.mutations)
