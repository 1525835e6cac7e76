-- Which commands go by the baselines of a campaign, and under which limit of cycles a command is carried out.
use Rattle.std.specs.Prelude.{◌≡◌, ℕ, false, ⊤}
use Rattle.command_words.specs.declared.command.Command.{Command}
use Rattle.command_words.specs.declared.command.Command.TheVariants.{Init, Run, List as Listing, Status, Source, Baseline, Demo}
use Rattle.campaign_plan.specs.declared.prepared.Prepared.{Prepared}
use Rattle.campaign_run.specs.Limits.{FailsBaselines, IsLimitOf}

-- the command begins a campaign, or runs it
abbrev pub Opens : Command → Type 0
Opens Init = ⊤
Opens (Run jobs stop_after retry) = ⊤
Opens Listing = ⊥
Opens (Status strict) = ⊥
Opens Source = ⊥
Opens Baseline = ⊥
Opens (Demo seed cells) = ⊥

-- it does, and its project asks that each bench passes with the design, and one does not
abbrev pub IsUnfit : Command → Prepared → Type 0
IsUnfit command c = Opens command × FailsBaselines c

-- For proofs alone.

-- The limit of cycles under which a command is carried out. Where it begins a campaign or runs it, the baselines pass that the project
-- asks for.
pub record IsLimitFor (command : Command) (c : Prepared) (cycles : ℕ) : Type 0 where
  pub limit : Opens command → IsLimitOf c cycles
  pub same : c.auto_cycles ≡ false → cycles ≡ c.cycles
