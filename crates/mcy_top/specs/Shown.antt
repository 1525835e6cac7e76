-- What a demo does: it runs the campaign of the project that two numbers make, from nothing to its end, and writes a summary of it.
use Rattle.std.specs.Prelude.{◌≡◌, ◌⊎◌, ℕ, ◌+◌, ◌^◌, ◌≤◌, List, [], ◌∷◌, length, Option, Some}
use Rattle.netlist_core.specs.Checked.{free_bits}
use Rattle.mcy_outside.specs.Written.{Appends, AppendsPart}
use Rattle.result_book.specs.declared.answer.Answer.{Answer}
use Rattle.source_report.specs.Texts.{lines}
use Rattle.campaign_plan.specs.declared.prepared.Prepared.{Prepared}
use Rattle.campaign_reading.specs.declared.refusal.Refusal.{Refusal}
use Rattle.campaign_reading.specs.declared.refusal.Refusal.TheVariants.{ProjectBad as RefusedProject, ScriptBad as RefusedScript, SourceBad as RefusedSource}
use Rattle.campaign_reading.specs.Files.{IsMade}
use Rattle.campaign_reading.specs.Reads.{IsUnmade}
use Rattle.made_project.specs.Summaries.{summary_text}
use Rattle.made_campaign.specs.Made.{made_held, made_limit}
use Rattle.campaign_outcomes.specs.declared.outcome.Outcome.{Outcome}
use Rattle.campaign_outcomes.specs.declared.outcome.Outcome.TheVariants.{Done, ProjectBad, ScriptBad, SourceBad, WriteFault, Memory}
use Rattle.mcy_top.specs.Defined.{AreAllAnswers, Pair}

-- how many tests have these answers
abbrev pub tests_in : List (List Answer) → ℕ
tests_in [] = 0
tests_in (answers ∷ more) = length answers + tests_in more

-- the campaign of the project of a seed whose design has so many cells
abbrev pub IsMadeOf : (seed cells : ℕ) → Prepared → Type 0
IsMadeOf seed cells c = IsMade (Some (made_held seed cells)) c

-- no pair is given up where 3 ^ k is no more than the limit of a test in lemmas, for the k free bits of the design
abbrev pub GivesNoneUp : Prepared → (limit : ℕ) → List Pair → Type 0
GivesNoneUp c limit pairs = 3 ^ free_bits c.netlist ≤ limit → pairs ≡ []

-- The campaign was run from nothing to its end. A step was taken for each test that it defines with the pairs that were given up, and
-- the status is the one that it defines.
pub record RanWhole (c : Prepared) (limit before now : ℕ) (status : List ℕ) : Type 0 where
  pub pairs : List Pair
  pub none_up : GivesNoneUp c limit pairs
  pub all : List (List Answer)
  pub defined : AreAllAnswers c pairs 0 all
  pub steps : now ≡ before + tests_in all
  pub status_is : status ≡ lines c.campaign all

-- No more steps were taken than the campaign defines tests, with the pairs that were given up so far.
pub record RanPart (c : Prepared) (limit before now : ℕ) : Type 0 where
  pub pairs : List Pair
  pub none_up : GivesNoneUp c limit pairs
  pub few : (all : List (List Answer)) → AreAllAnswers c pairs 0 all → now ≤ before + tests_in all

-- The text is the summary of that campaign, which was run to its end.
pub record IsSummary (seed cells before now : ℕ) (text : List ℕ) : Type 0 where
  pub prepared : Prepared
  pub made : IsMadeOf seed cells prepared
  pub status : List ℕ
  pub ran : RanWhole prepared made_limit before now status
  pub is : text ≡ summary_text seed cells prepared.site_count status

-- there was no memory: before a test was started, or in the midst of the campaign
abbrev pub StoppedShort : (seed cells before now : ℕ) → Type 0
StoppedShort seed cells before now = (now ≡ before) ⊎ ((c : Prepared) × IsMadeOf seed cells c × RanPart c made_limit before now)

-- the texts of the project are refused, and nothing was done
pub record IsRefused (seed cells : ℕ) (written written' : Option (List ℕ)) (before now : ℕ) (refusal : Refusal) : Type 0 where
  pub why : IsUnmade (Some (made_held seed cells)) refusal
  pub quiet : written' ≡ written
  pub idle : now ≡ before

-- What a demo does at each outcome: at Done exactly the summary was written, and at WriteFault a first part of it; a refusal is of the
-- texts that the two numbers make.
abbrev pub Shown : (seed cells : ℕ) → (written written' : Option (List ℕ)) → (before now : ℕ) → Outcome → Type 0
Shown seed cells written written' before now Done = (text : List ℕ) × IsSummary seed cells before now text × Appends written written' text
Shown seed cells written written' before now WriteFault = (text : List ℕ) × IsSummary seed cells before now text × AppendsPart written written' text
Shown seed cells written written' before now (ProjectBad error) = IsRefused seed cells written written' before now (RefusedProject error)
Shown seed cells written written' before now (ScriptBad error) = IsRefused seed cells written written' before now (RefusedScript error)
Shown seed cells written written' before now (SourceBad error) = IsRefused seed cells written written' before now (RefusedSource error)
Shown seed cells written written' before now Memory = (written' ≡ written) × StoppedShort seed cells before now
Shown seed cells written written' before now outcome = ⊥
