-- What is heard of a course by the words that there are: what it comes to, or why it stops.
use Rattle.std.specs.Prelude.{ℕ, ◌≡◌, List, Option, None, Some, Result, Ok, Err, MatchOption, MatchResult, map, if◌then◌else◌}
use Rattle.tag_script.specs.declared.evaluation.State.{State}
use Rattle.tag_script.specs.declared.evaluation.Stop.{Stop}
use Rattle.tag_script.specs.declared.evaluation.Stop.TheVariants as stop
use Rattle.tag_script.specs.declared.answer.Ask.{Ask}
use Rattle.tag_script.specs.declared.answer.Ask.TheVariants as ask
use Rattle.tag_script.specs.Courses.{Choice, Course, Doing, Standing, chosen, ended, failed, reads}
use Rattle.tag_script.specs.Outcomes.{is_expected, word_at}
use Rattle.tag_script.specs.Values.{datum_of}

-- For proofs alone.

abbrev pub word_by : List ℕ → ℕ → Option ℕ → Result ℕ Stop
word_by expect test None = Err (stop.Need test)
word_by expect test (Some word) = if is_expected expect test word then Ok word else Err (stop.Unexpected test)

-- the word of a test that is read, or that it is needed or not expected
unfoldable pub word_read : List ℕ → List (Option ℕ) → ℕ → Result ℕ Stop
word_read expect results test = word_by expect test (word_at results test)

abbrev pub on_word : {A : Type 0} → Result ℕ Stop → (ℕ → Result A Stop) → Result A Stop
on_word (Ok word) next = next word
on_word (Err why) next = Err why

unfoldable pub heard : {A : Type 0} → List ℕ → List (Option ℕ) → Course A → Result A Stop
heard expect results (ended a) = Ok a
heard expect results (failed line) = Err (stop.AssertFailed line)
heard expect results (reads test goes) = on_word (word_read expect results test) (λ word. heard expect results (goes word))

-- the result is this one, but that its value is seen by `view`
abbrev pub Hears : {A B : Type 0} → (A → B) → Result A Stop → Result B Stop → Type 0
Hears view result heard = MatchResult result (λ a. heard ≡ Ok (view a)) (λ why. heard ≡ Err why)

abbrev pub standing_of : State → Standing
standing_of state = record { names = map datum_of state.names; tags = state.tags }

-- what the first arm does whose condition is true, or that there is none, whatever stands behind the arms
abbrev pub Takes : List ℕ → List (Option ℕ) → List Choice → Standing → Result (Option State) Stop → Type 0
Takes expect results arms standing result = (other : Doing) → MatchResult result
    (λ taken. MatchOption taken (heard expect results (chosen arms other standing) ≡ heard expect results (other standing)) (λ state. heard expect results (chosen arms other standing) ≡ Ok (standing_of state)))
    (λ why. heard expect results (chosen arms other standing) ≡ Err why)

abbrev pub ask_told : Result ℕ Stop → Ask
ask_told (Ok tags) = ask.Done tags
ask_told (Err (stop.Need test)) = ask.Need test
ask_told (Err (stop.AssertFailed line)) = ask.AssertFailed line
ask_told (Err (stop.Unexpected test)) = ask.Unexpected test
