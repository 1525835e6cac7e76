-- What a campaign's tag script asks for on a mutation, how it ends, and what a row tells of that.
use Rattle.std.specs.Prelude.{◌≡◌, ℕ, zero, suc, ◌+◌, ◌-◌, ◌^◌, Bool, true, false, ◌==◌, List, [], ◌∷◌, Option, None, Some, map, min, unwrap_or, if◌then◌else◌, bit_and}
use Rattle.std.specs.Option.{option_or}
use Rattle.std.specs.List.{Any}
use Rattle.tag_script.specs.declared.answer.Ask.{Ask}
use Rattle.tag_script.specs.declared.answer.Ask.TheVariants.{Need, Done, AssertFailed, Unexpected}
use Rattle.tag_script.specs.Outcomes.{script_outcome, told, word_at}
pub use Rattle.result_book.specs.declared.answer.Answer.{Answer}
use Rattle.result_book.specs.declared.campaign.Campaign.{Campaign}
use Rattle.result_book.specs.declared.script.TestWord.{TestWord}
use Rattle.result_book.specs.declared.script.TestWord.TheVariants.{Pass, Fail, Hang, Unknown}

-- the code of a word in a row
abbrev pub word_code : TestWord → ℕ
word_code Pass = 0
word_code Fail = 1
word_code Hang = 2
word_code Unknown = 3

-- the last word of a test among a mutation's answers, if there is one
abbrev pub word_in : List Answer → ℕ → Option ℕ
word_in [] test = None
word_in (answer ∷ more) test = option_or (word_in more test) (if answer.test == test then Some answer.word else None)

-- what each of so many has, from this one on
abbrev pub each_from : {X : Type 0} → (ℕ → X) → ℕ → ℕ → List X
each_from f from zero = []
each_from f from (suc n) = f from ∷ each_from f (from + 1) n

-- the last words of the 16 tests that there are at most
unfoldable pub words_of : List Answer → List (Option ℕ)
words_of answers = each_from (word_in answers) 0 16

-- These words, with PASS for each test that has none. Any other would do: see `MissingWordsPlayNoPart`.
abbrev pub filled : List (Option ℕ) → List ℕ
filled words = map (λ word. unwrap_or word (word_code Pass)) words

-- What the script asks for where the tests of a mutation have these words: the first test that it asks and that has none, or
-- how it ended.
unfoldable pub ask_by : Campaign → List (Option ℕ) → Ask
ask_by c words = told words (script_outcome c.expect (filled words) c.script)

-- what the script asks for where a mutation's tests have given these answers, or how it ended
abbrev pub ask : Campaign → List Answer → Ask
ask c answers = ask_by c (words_of answers)

-- the tests that the script asks where the tests of a mutation have these words, in the order asked
unfoldable pub asked_on : Campaign → List (Option ℕ) → List ℕ
asked_on c words = (script_outcome c.expect (filled words) c.script).asked

-- what a test answered, and other answers behind it; none where it has no word
abbrev pub known_first : ℕ → Option ℕ → List Answer → List Answer
known_first test None behind = []
known_first test (Some word) behind = record { test = test; word = word } ∷ behind

-- what these tests answered, up to the first without a word
abbrev pub known_of : List (Option ℕ) → List ℕ → List Answer
known_of words [] = []
known_of words (test ∷ more) = known_first test (word_at words test) (known_of words more)

-- The read tests of a mutation whose tests have these last words, each with its word: the tests that the script asks on them, in
-- the order asked, up to the first without a word.
abbrev pub read_by : Campaign → List (Option ℕ) → List Answer
read_by c words = known_of words (asked_on c words)

-- the read tests of a mutation whose tests have given these answers
abbrev pub read_answers : Campaign → List Answer → List Answer
read_answers c answers = read_by c (words_of answers)

-- the test is one of them
abbrev pub IsRead : Campaign → List Answer → ℕ → Type 0
IsRead c answers test = Any (λ answer. answer.test ≡ test) (read_answers c answers)

-- the script needs no test
abbrev pub is_ended : Ask → Bool
is_ended (Need test) = false
is_ended ended = true

-- it ended with this tag, which is given by its bit
abbrev pub has_tag : ℕ → Ask → Bool
has_tag bit (Done tags) = bit_and tags bit == bit
has_tag bit ask = false

-- The mark and the tags of a row, from how the script stands after it. No project file has so many lines that the limit
-- of `u32` matters.
abbrev pub mark_of : Ask → ℕ
mark_of (Need test) = 0
mark_of (Done tags) = 1
mark_of (Unexpected test) = 2
mark_of (AssertFailed line) = min (16 + line) (2 ^ 32 - 1)

abbrev pub tags_of : Ask → ℕ
tags_of (Done tags) = tags
tags_of ask = 0
