-- When a call must succeed.
use Rattle.std.specs.Prelude.{◌≡◌, ◌≢◌, ℕ, List, Option, None, Some, ⊤}
use Rattle.mcy_base.specs.Causes.{Rose}
use Rattle.mcy_keeper.specs.declared.book.Book.{Book}
use Rattle.mcy_outside.specs.Files.{Held}
use Rattle.command_words.specs.declared.command.Command.{Command}
use Rattle.campaign_plan.specs.declared.prepared.Prepared.{Prepared}
use Rattle.campaign_outcomes.specs.declared.outcome.Outcome.{Outcome}
use Rattle.campaign_outcomes.specs.declared.outcome.Outcome.TheVariants.{Done, Unfinished, Memory, RequirementMissed}
use Rattle.command_words.specs.Commands.{command_of}
use Rattle.mcy_top.specs.Commands.{aim_of, stop_of, OnBook}
use Rattle.campaign_reading.specs.Files.{IsMade}
use Rattle.campaign_reading.specs.Readable.{IsReadable}
use Rattle.campaign_run.specs.declared.baseline.Baseline.{Baseline}
use Rattle.campaign_run.specs.Baselines.{AllPass}
use Rattle.campaign_run.specs.Limits.{AsksBaselines, HasBaselines}
use Rattle.mcy_top.specs.Life.{Takes}
use Rattle.mcy_top.specs.Limits.{Opens}

-- The command is given and works on the book, the files are there, and each book that a load may give is one that the command takes, with
-- the mutations that the words name. Where it begins a campaign or runs it, and its project asks that each bench passes with the design,
-- each does.
pub record IsReady (words : List (List ℕ)) (held : Option Held) (holds : Book → Type 0) (leaves : Option Book → Type 0) (command : Command) : Type 0 where
  pub asked : command_of words ≡ Some command
  pub on_book : OnBook command
  pub readable : IsReadable held
  pub takes : (c : Prepared) (book : Book) → IsMade held c → leaves (Some book) → ((was : Book) → holds was → book ≡ was) → Takes command (aim_of words command) c book
  pub passes : (c : Prepared) (list : List Baseline) → IsMade held c → Opens command → AsksBaselines c → HasBaselines c list → AllPass list

-- no count of faults rose
pub record NoneRose (files files' keeper keeper' sink sink' : ℕ) : Type 0 where
  pub reads : ¬ Rose files files'
  pub keeps : ¬ Rose keeper keeper'
  pub writes : ¬ Rose sink sink'

-- the command was carried out, as far as was asked for, or there was no memory
abbrev pub Completes : Command → Outcome → Type 0
Completes command Done = ⊤
Completes command RequirementMissed = ⊤
Completes command (Unfinished left) = stop_of command ≢ None
Completes command Memory = ⊤
Completes command outcome = ⊥
