-- What a run aims at, and which test it wants of a mutation.
use Rattle.std.specs.Prelude.{◌≡◌, ◌⊎◌, ℕ, ◌+◌, ◌<◌, ◌%◌, Bool, true, not, ◌==◌, ◌&&◌, ◌||◌, List, length, Option, None, Some, find, nat_le, nat_lt, option_map, slice_index, IsTrue, if◌then◌else◌}
use Rattle.std.specs.List.{list_any}
use Rattle.mcy_keeper.specs.declared.book.Entry.{Entry}
use Rattle.tag_script.specs.Outcomes.{word_at}
use Rattle.result_book.specs.declared.campaign.Campaign.{Campaign}
use Rattle.result_book.specs.declared.goal.Goal.{Goal}
use Rattle.result_book.specs.declared.goal.Want.{Want}
use Rattle.result_book.specs.declared.script.TestWord.TheVariants.{Unknown}
use Rattle.result_book.specs.Campaigns.{first_bound}
use Rattle.result_book.specs.Rounds.{is_limit}
use Rattle.result_book.specs.Rows.{answers_of, bounds_on}
use Rattle.result_book.specs.Scripts.{asked_on, word_code, words_of}

-- there are parts, this is one of them, and given-up tests are asked again under such a limit or not at all
pub record IsGoal (goal : Goal) : Type 0 where
  pub some : 0 < goal.parts
  pub part : goal.part < goal.parts
  pub retry : (goal.retry ≡ 0) ⊎ IsTrue (is_limit goal.retry)

-- the number is one of these, or there are none
abbrev pub is_named : List ℕ → ℕ → Bool
is_named numbers number = length numbers == 0 || list_any (λ named. named == number) numbers

-- the run is over this mutation, which is counted from 0 here, and among the goal's numbers from 1
abbrev pub is_in : Goal → ℕ → Bool
is_in goal m = m % goal.parts == goal.part && is_named goal.mutations (m + 1)

-- a number, counted from 1, names one of so many mutations
abbrev pub names_one : (count number : ℕ) → Bool
names_one count number = nat_le 1 number && nat_le number count

-- the first of these numbers that names none of so many mutations
abbrev pub first_unnamed : ℕ → List ℕ → Option ℕ
first_unnamed count numbers = find (λ number. not (names_one count number)) numbers

-- a test with this last word, found under this bound, was given up under less than the limit
abbrev pub is_given_up : ℕ → ℕ → ℕ → Bool
is_given_up limit word bound = word == word_code Unknown && nat_lt bound limit

-- a test is asked under this limit: it has no word, or was given up under less
abbrev pub is_open : ℕ → Option ℕ → ℕ → Bool
is_open limit None bound = true
is_open limit (Some word) bound = is_given_up limit word bound

-- the first test that is asked under this limit where the tests of a mutation have these last words and bounds, in the order asked
abbrev pub open_test : Campaign → List (Option ℕ) → List ℕ → ℕ → Option ℕ
open_test c words bounds limit = find (λ test. is_open limit (word_at words test) (slice_index bounds test)) (asked_on c words)

-- the bound under which a test with this last word is asked next
abbrev pub next_bound : Campaign → ℕ → ℕ → Option ℕ → ℕ
next_bound c limit test None = first_bound c test
next_bound c limit test (Some word) = limit

abbrev pub want_of : Campaign → List (Option ℕ) → ℕ → ℕ → Want
want_of c words limit test = record { test = test; bound = next_bound c limit test (word_at words test) }

-- what a run wants of a mutation whose tests have these last words and bounds
abbrev pub wanted_by : Campaign → List (Option ℕ) → List ℕ → ℕ → Option Want
wanted_by c words bounds limit = option_map (want_of c words limit) (open_test c words bounds limit)

-- What a run with this goal wants of a mutation after these rows: the first test in the order asked that has no word, or was given
-- up under less than the goal's limit; none where the run is not over the mutation.
abbrev pub wanted : Campaign → List Entry → ℕ → Goal → Option Want
wanted c rows m goal = if is_in goal m then wanted_by c (words_of (answers_of m rows)) (bounds_on m rows) goal.retry else None
