-- The work of a command under the limit of cycles of its campaign.
use Rattle.std.specs.Prelude.{◌≡◌, ℕ, false, List, Option}
use Rattle.mcy_keeper.specs.declared.book.Book.{Book}
use Rattle.result_book.specs.declared.goal.Goal.{Goal}
use Rattle.command_words.specs.declared.command.Command.{Command}
use Rattle.campaign_plan.specs.declared.prepared.Prepared.{Prepared}
use Rattle.campaign_run.specs.Limits.{PassesBaselines}
use Rattle.campaign_outcomes.specs.declared.outcome.Outcome.{Outcome}
use Rattle.mcy_top.specs.Life.{Carried, Work}
use Rattle.mcy_top.specs.Limits.{Opens}

-- For proofs alone.

-- The limit is the project's, or follows from its baselines. Where the text was written, the baselines pass that the project asks for.
pub record WorkUnder (leaves : Option Book → Type 0) (written written' : Option (List ℕ)) (taken taken' : ℕ) (command : Command) (aim : Goal) (c : Prepared) (loaded : Book) (outcome : Outcome) : Type 0 where
  pub cycles : ℕ
  pub same : c.auto_cycles ≡ false → cycles ≡ c.cycles
  pub work : Work leaves written written' taken taken' command aim (record c { cycles = cycles }) loaded outcome
  pub passes : Opens command → Carried outcome → PassesBaselines (record c { cycles = cycles })
