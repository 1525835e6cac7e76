-- How many events a campaign may take still, Stop apart.
use Rattle.std.specs.Prelude.{ℕ, zero, suc, ◌+◌, ◌-◌, ◌*◌, List, [], ◌∷◌, length, sum, max, Option, None, Some, if◌then◌else◌}
use Rattle.result_book.specs.declared.campaign.Campaign.{Campaign}
use Rattle.result_book.specs.declared.goal.Goal.{Goal}
use Rattle.result_book.specs.Campaigns.{first_bound}
use Rattle.result_book.specs.Scripts.{each_from}
use Rattle.campaign_core.specs.Kept.{mutation_left}
use Rattle.campaign_core.specs.Testers.{Asked}
use Rattle.campaign_core.specs.Turns.{Busy, Turns, is_of}

-- the greatest of what each of some numbers has
abbrev pub greatest : (ℕ → ℕ) → (from n : ℕ) → ℕ
greatest f from zero = 0
greatest f from (suc n) = max (f from) (greatest f (from + 1) n)

-- the turns without a word of a test on a mutation, under either bound that a run asks it with
abbrev pub test_turns : (Asked → ℕ) → Campaign → Goal → (m t : ℕ) → ℕ
test_turns most c goal m t = max (most (record { mutation = m; test = t; bound = first_bound c t })) (most (record { mutation = m; test = t; bound = goal.retry }))

-- No test takes more events than these: its start, its turns, the last of which gives its word, and its commit.
abbrev pub test_events : (Asked → ℕ) → Campaign → Goal → ℕ
test_events most c goal = greatest (λ m. greatest (test_turns most c goal m) 0 (length c.kinds)) 0 (length c.mutations) + 3

-- the test of a mutation in a slot
abbrev pub slot_of : ℕ → List (Option Busy) → Option Busy
slot_of m [] = None
slot_of m (slot ∷ more) = if is_of m slot then slot else slot_of m more

-- what a test in a slot takes still
abbrev pub events_by : ℕ → Option ℕ → ℕ
events_by left None = left + 2
events_by left (Some word) = 1

-- what a mutation takes, of which so many rows may be added, with this test in a slot
abbrev pub events_on : ℕ → ℕ → Option Busy → ℕ
events_on most rows None = most * rows
events_on most rows (Some busy) = most * (rows - 1) + events_by busy.left busy.word

abbrev pub mutation_events : {T : Type 0} → (Asked → ℕ) → Turns T → ℕ → ℕ
mutation_events most s m = events_on (test_events most s.campaign s.goal) (mutation_left s.campaign s.goal.retry s.state.rows m) (slot_of m s.slots)

-- all mutations together
abbrev pub events_left : {T : Type 0} → (Asked → ℕ) → Turns T → ℕ
events_left most s = sum (each_from (mutation_events most s) 0 (length s.campaign.mutations))
