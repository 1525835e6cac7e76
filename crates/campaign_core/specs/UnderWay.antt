-- What holds between the events of a campaign.
use Rattle.std.specs.Prelude.{◌≡◌, ℕ, ◌+◌, ◌<◌, ◌≤◌, List, length, replicate, Option, None, Some, MatchOption, ⊤, max, false, ◌*◌}
use Rattle.mcy_keeper.specs.declared.book.Entry.{Entry}
use Rattle.result_book.specs.declared.campaign.Campaign.{Campaign}
use Rattle.result_book.specs.declared.goal.Goal.{Goal}
use Rattle.result_book.specs.Campaigns.{IsFit, IsWordOf}
use Rattle.result_book.specs.Goals.{IsGoal, wanted}
use Rattle.result_book.specs.States.{IsStateOf, Progress}
use Rattle.campaign_core.specs.Testers.{Asked}
use Rattle.campaign_core.specs.Turns.{Busy, IsIn, Turns, busy_count}

-- The test in a slot is the one that its mutation wants, and its word is one that it may give and one of its kind.
pub record IsBusy (gives : Asked → ℕ → Type 0) (c : Campaign) (goal : Goal) (rows : List Entry) (busy : Busy) : Type 0 where
  pub mutation : busy.asked.mutation < length c.mutations
  pub is_wanted : wanted c rows busy.asked.mutation goal ≡ Some (record { test = busy.asked.test; bound = busy.asked.bound })
  pub given : MatchOption busy.word ⊤ (λ word. gives busy.asked word × IsWordOf c busy.asked.test word)

-- no two slots have the same mutation
abbrev pub AreApart : List (Option Busy) → Type 0
AreApart slots = (i j : ℕ) (a b : Busy) → IsIn slots i a → IsIn slots j b → a.asked.mutation ≡ b.asked.mutation → i ≡ j

-- The state is that of the campaign's book; the tests in the slots are wanted, each of another mutation; and the tests that were
-- started are those that were acknowledged and those in slots.
pub record IsUnderWay (gives : Asked → ℕ → Type 0) {T : Type 0} (s : Turns T) : Type 0 where
  pub fit : IsFit s.campaign
  pub is_goal : IsGoal s.goal
  pub form : IsStateOf s.campaign s.state.rows s.state
  pub tests : (slot : ℕ) (busy : Busy) → IsIn s.slots slot busy → IsBusy gives s.campaign s.goal s.state.rows busy
  pub apart : AreApart s.slots
  pub counts : s.started ≡ s.acknowledged + busy_count s.slots
  pub rows : s.acknowledged ≤ length s.state.rows
  pub some_slots : 1 ≤ length s.slots
  pub few_slots : length s.slots ≤ 64
  pub first_slot : s.first < length s.slots

-- room for two rows of each test on each mutation
abbrev pub room_for : Campaign → ℕ
room_for c = 2 * (length c.mutations * length c.kinds)

-- a campaign whose slots are all free
abbrev pub begun : {T : Type 0} → Campaign → Goal → T → Progress → (slots : ℕ) → Turns T
begun c goal tester state slots = record {
  campaign = c;
  goal = goal;
  tester = tester;
  state = record state { spare = max state.spare (room_for c) };
  slots = replicate slots None;
  first = 0;
  acknowledged = 0;
  started = 0;
  is_stopped = false;
}
