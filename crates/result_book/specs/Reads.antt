-- How the read tests of a mutation are found, one after the other.
use Rattle.std.specs.Prelude.{ℕ, List, Option, None, Some}
use Rattle.tag_script.specs.declared.answer.Ask.{Ask}
use Rattle.tag_script.specs.declared.answer.Ask.TheVariants.{Need}
use Rattle.tag_script.specs.Outcomes.{word_at}
use Rattle.result_book.specs.declared.answer.Answer.{Answer}
use Rattle.result_book.specs.declared.campaign.Campaign.{Campaign}
use Rattle.result_book.specs.Scripts.{ask_by}

-- For proofs alone.

-- what a test answered, where it has a word
abbrev pub answer_known : ℕ → Option ℕ → Option Answer
answer_known test None = None
answer_known test (Some word) = Some (record { test = test; word = word })

-- what the test answered that a script needs, where it needs one that has a word among these
abbrev pub answer_needed : List (Option ℕ) → Ask → Option Answer
answer_needed last (Need test) = answer_known test (word_at last test)
answer_needed last ended = None

-- the next test that is read after those whose words were seen, where these are the last words
abbrev pub next_read : Campaign → List (Option ℕ) → List (Option ℕ) → Option Answer
next_read c last seen = answer_needed last (ask_by c seen)
