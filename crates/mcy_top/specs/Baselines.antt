-- What `baseline` does: it tells what each bench of a campaign says of the design itself.
use Rattle.std.specs.Prelude.{◌≡◌, ◌≢◌, ℕ, ◌⊎◌, Bool, true, false, List, [], Option}
use Rattle.mcy_outside.specs.Files.{Held}
use Rattle.mcy_outside.specs.Written.{Appends, AppendsPart}
use Rattle.campaign_plan.specs.declared.prepared.Prepared.{Prepared}
use Rattle.campaign_reading.specs.declared.refusal.Refusal.{Refusal}
use Rattle.campaign_reading.specs.declared.refusal.Refusal.TheVariants.{ProjectBad as RefusedProject, ScriptBad as RefusedScript, SourceBad as RefusedSource, Missing as RefusedMissing, TooLarge as RefusedTooLarge, ReadFault as RefusedRead, Memory as NotTold}
use Rattle.campaign_reading.specs.Files.{IsMade}
use Rattle.campaign_reading.specs.Reads.{HasReadCause, IsUnmade}
use Rattle.campaign_run.specs.declared.baseline.Baseline.{Baseline}
use Rattle.campaign_run.specs.Baselines.{AllPass}
use Rattle.campaign_run.specs.Limits.{HasBaselines}
use Rattle.campaign_baseline.specs.Lines.{baseline_text, failing_text}
use Rattle.campaign_outcomes.specs.declared.outcome.Outcome.{Outcome}
use Rattle.campaign_outcomes.specs.declared.outcome.Outcome.TheVariants.{Done, BaselineBad, ProjectBad, ScriptBad, SourceBad, Missing, TooLarge, ReadFault, WriteFault, Memory}

-- the text that tells them
abbrev pub baselines_text : Prepared → List Baseline → List ℕ
baselines_text c list = baseline_text c.campaign.test_names list

-- What was written at each outcome: the whole text where each bench passes, and where one does not; and a first part of it where the
-- sink failed.
abbrev pub TellsBaselines : Prepared → (before now : Option (List ℕ)) → Outcome → Type 0
TellsBaselines c before now Done = (list : List Baseline) × HasBaselines c list × AllPass list × Appends before now (baselines_text c list)
TellsBaselines c before now BaselineBad = (list : List Baseline) × HasBaselines c list × (¬ AllPass list) × Appends before now (baselines_text c list)
TellsBaselines c before now WriteFault = (list : List Baseline) × HasBaselines c list × AppendsPart before now (baselines_text c list)
TellsBaselines c before now Memory = now ≡ before
TellsBaselines c before now outcome = ⊥

-- the files are refused, and nothing was written
pub record IsRefusedFor (held : Option Held) (before now : Option (List ℕ)) (refusal : Refusal) : Type 0 where
  pub why : IsUnmade held refusal
  pub quiet : now ≡ before

-- The same of what the files hold: where they make a campaign, its baselines are told.
abbrev pub ToldBaselines : Option Held → (before now : Option (List ℕ)) → Outcome → Type 0
ToldBaselines held before now (ProjectBad error) = IsRefusedFor held before now (RefusedProject error)
ToldBaselines held before now (ScriptBad error) = IsRefusedFor held before now (RefusedScript error)
ToldBaselines held before now (SourceBad error) = IsRefusedFor held before now (RefusedSource error)
ToldBaselines held before now (Missing name) = IsRefusedFor held before now (RefusedMissing name)
ToldBaselines held before now (TooLarge name) = IsRefusedFor held before now (RefusedTooLarge name)
ToldBaselines held before now (ReadFault name) = IsRefusedFor held before now (RefusedRead name)
ToldBaselines held before now Memory = now ≡ before
ToldBaselines held before now outcome = (c : Prepared) × IsMade held c × TellsBaselines c before now outcome

-- The lines of those baselines that do not pass, of the campaign that the files make.
pub record TellsFailing (held : Option Held) (text : List ℕ) : Type 0 where
  pub prepared : Prepared
  pub made : IsMade held prepared
  pub list : List Baseline
  pub are : HasBaselines prepared list
  pub is : text ≡ failing_text prepared.campaign.test_names list

-- Why there is none: they make no campaign, or could not be read, and then their count of faults rose.
pub record HasNoBaselines (held : Option Held) (before now : ℕ) : Type 0 where
  pub refusal : Refusal
  pub why : IsUnmade held refusal
  pub cause : HasReadCause before now refusal
  pub found : refusal ≢ NotTold

abbrev pub IsFailingText : Option Held → (before now : ℕ) → List ℕ → Type 0
IsFailingText held before now text = TellsFailing held text ⊎ ((text ≡ []) × HasNoBaselines held before now)

-- For proofs alone.

-- how a call ends that has told whether all benches pass
abbrev pub baseline_outcome : Bool → Outcome
baseline_outcome true = Done
baseline_outcome false = BaselineBad
