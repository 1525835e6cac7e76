-- What a campaign defines: a function of the project and of the pairs that were given up. There is no order of tests,
-- no slot, no stop and no bound in it.
use Rattle.std.specs.Prelude.{◌≡◌, ℕ, ◌+◌, Bool, true, ◌==◌, ◌&&◌, ◌||◌, not, false, List, [], ◌∷◌, ◌++◌, length, slice_get, Option, Some, if◌then◌else◌}
use Rattle.std.specs.Bool.{MatchBool}
use Rattle.mcy_keeper.specs.declared.book.Entry.{Entry}
use Rattle.result_book.specs.declared.script.TestWord.TheVariants.{Unknown}
use Rattle.tag_script.specs.declared.answer.Ask.TheVariants.{Need}
use Rattle.campaign_plan.specs.declared.prepared.Prepared.{Prepared}
use Rattle.result_book.specs.declared.answer.Answer.{Answer}
use Rattle.result_book.specs.Scripts.{word_code, ask, is_ended}
use Rattle.campaign_plan.specs.declared.trial.Trial.{Trial}
use Rattle.campaign_plan.specs.declared.trial.Trial.TheVariants.{Equality}
use Rattle.campaign_run.specs.Rows.{IsTrueWord}
use Rattle.command_words.specs.declared.command.Command.{Command}
use Rattle.mcy_top.specs.Texts.{answers_text}

-- a pair of a mutation and a test that was given up
pub record Pair : Type 0 where
  pub mutation : ℕ
  pub test : ℕ

-- whether one of the rows is of this pair
abbrev pub has_pair : List Entry → ℕ → ℕ → Bool
has_pair [] m t = false
has_pair (e ∷ more) m t = (e.mutation == m && e.test == t) || has_pair more m t

-- whether the row is the last one of its pair, before these, and has the word UNKNOWN
abbrev pub stays_unknown : Entry → List Entry → Bool
stays_unknown e more = e.word == word_code Unknown && not (has_pair more e.mutation e.test)

-- the pairs whose last word among the rows is UNKNOWN
abbrev pub given_up : List Entry → List Pair
given_up [] = []
given_up (e ∷ more) = if stays_unknown e more then record { mutation = e.mutation; test = e.test } ∷ given_up more else given_up more

abbrev pub is_given_up : List Pair → ℕ → ℕ → Bool
is_given_up [] m t = false
is_given_up (p ∷ more) m t = (p.mutation == m && p.test == t) || is_given_up more m t

-- whether a test may be given up: it is an equality
abbrev pub is_equality : Option Trial → Bool
is_equality (Some Equality) = true
is_equality other = false

-- the word of a pair: UNKNOWN where it was given up, else the true word
abbrev pub IsWordOf : Prepared → List Pair → ℕ → ℕ → ℕ → Type 0
IsWordOf c pairs m t word = MatchBool (is_equality (slice_get c.trials t) && is_given_up pairs m t) (word ≡ word_code Unknown) (IsTrueWord c m t word)

-- the script asks for each test on the answers before it, and each has its word; then it needs no test
abbrev pub AreAnswers : Prepared → List Pair → ℕ → List Answer → List Answer → Type 0
AreAnswers c pairs m earlier [] = is_ended (ask c.campaign earlier) ≡ true
AreAnswers c pairs m earlier (a ∷ more) = (ask c.campaign earlier ≡ Need a.test) × IsWordOf c pairs m a.test a.word × AreAnswers c pairs m (earlier ++ a ∷ []) more

-- the answers of each mutation, from mutation m on
abbrev pub AreAllAnswers : Prepared → List Pair → ℕ → List (List Answer) → Type 0
AreAllAnswers c pairs m [] = m ≡ length c.campaign.mutations
AreAllAnswers c pairs m (answers ∷ more) = AreAnswers c pairs m [] answers × AreAllAnswers c pairs (m + 1) more

-- the text of a command that a campaign and its given-up pairs define
pub record IsFinalText (command : Command) (c : Prepared) (pairs : List Pair) (text : List ℕ) : Type 0 where
  pub all : List (List Answer)
  pub defined : AreAllAnswers c pairs 0 all
  pub is : text ≡ answers_text command c all
