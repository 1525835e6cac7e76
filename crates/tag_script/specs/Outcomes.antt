-- How a tag script ends where each test has a word, and what it asks next where some have none yet.
use Rattle.std.specs.Prelude.{ℕ, ◌≡◌, ◌==◌, Bool, not, List, [], ◌∷◌, Option, None, Some, bit_and, filter, find, is_none, slice_get, slice_index, unwrap_or, if◌then◌else◌}
use Rattle.tag_script.specs.declared.script.Script.{Script}
use Rattle.tag_script.specs.declared.answer.Ask.{Ask}
use Rattle.tag_script.specs.declared.answer.Ask.TheVariants as ask
use Rattle.tag_script.specs.Courses.{Course, course_of, ended, failed, reads}

-- how a script ends: with these tags, at the assertion on this line, or at the word of this test, which the project does not expect
pub data End : Type 0 where
  done : ℕ → End
  assert_failed : ℕ → End
  unexpected : ℕ → End

-- the tests that a script asks, in their order and each once, and how it ends
pub record Outcome : Type 0 where
  pub asked : List ℕ
  pub ends : End

-- the bit of a word among those that are expected
abbrev pub word_bit : ℕ → ℕ
word_bit word = if word == 0 then 1 else (if word == 1 then 2 else (if word == 2 then 4 else (if word == 3 then 8 else 0)))

-- where the words of each test that the project expects have bits in a number
abbrev pub is_expected : List ℕ → ℕ → ℕ → Bool
is_expected expect test word = not (bit_and (slice_index expect test) (word_bit word) == 0)

abbrev pub asking : ℕ → Outcome → Outcome
asking test behind = record { asked = test ∷ filter (λ other. not (other == test)) behind.asked; ends = behind.ends }

-- how a course ends where these are the words of all tests
unfoldable pub outcome_of : List ℕ → List ℕ → Course ℕ → Outcome
outcome_of expect words (ended tags) = record { asked = []; ends = done tags }
outcome_of expect words (failed line) = record { asked = []; ends = assert_failed line }
outcome_of expect words (reads test goes) =
    if is_expected expect test (slice_index words test) then asking test (outcome_of expect words (goes (slice_index words test))) else
    record { asked = test ∷ []; ends = unexpected test }

unfoldable pub script_outcome : List ℕ → List ℕ → Script → Outcome
script_outcome expect words script = outcome_of expect words (course_of script)

-- Some words.

-- the word of a test, where it has one
abbrev pub word_at : List (Option ℕ) → ℕ → Option ℕ
word_at results test = unwrap_or (slice_get results test) None

-- the words that there are are among these
pub record AreAmong (results : List (Option ℕ)) (words : List ℕ) : Type 0 where
  pub same : (test word : ℕ) → word_at results test ≡ Some word → slice_index words test ≡ word

abbrev pub end_told : End → Ask
end_told (done tags) = ask.Done tags
end_told (assert_failed line) = ask.AssertFailed line
end_told (unexpected test) = ask.Unexpected test

abbrev pub first_told : Option ℕ → End → Ask
first_told None ends = end_told ends
first_told (Some test) ends = ask.Need test

-- the first test that is asked and has no word, else how the script ends
unfoldable pub told : List (Option ℕ) → Outcome → Ask
told results outcome = first_told (find (λ test. is_none (word_at results test)) outcome.asked) outcome.ends
