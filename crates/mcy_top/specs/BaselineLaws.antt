-- Laws of baselines.
use Rattle.std.specs.Prelude.{◌≡◌, ◌≢◌, ◌⊎◌, ℕ, List, Option, Some, ⊤}
use Rattle.mcy_outside.specs.Files.{Held}
use Rattle.mcy_outside.specs.Written.{Appends}
use Rattle.campaign_plan.specs.declared.prepared.Prepared.{Prepared}
use Rattle.campaign_plan.specs.Campaigns.{IsPlan}
use Rattle.campaign_reading.specs.declared.refusal.Refusal.{Refusal}
use Rattle.campaign_reading.specs.Files.{IsMade}
use Rattle.campaign_run.specs.declared.baseline.Baseline.{Baseline}
use Rattle.campaign_run.specs.Baselines.{AllPass}
use Rattle.campaign_run.specs.Limits.{HasBaselines}
use Rattle.campaign_outcomes.specs.declared.outcome.Outcome.{Outcome}
use Rattle.campaign_outcomes.specs.declared.outcome.Outcome.TheVariants.{Done, BaselineBad, WriteFault}
use Rattle.mcy_top.specs.Baselines.{TellsBaselines, ToldBaselines}
use Rattle.mcy_top.specs.Exact.{IsCutShort, RefusesFiles}
use Rattle.mcy_top.specs.Outcomes.{outcome_of}

-- the baselines were told whole
abbrev pub AreTold : Outcome → Type 0
AreTold Done = ⊤
AreTold BaselineBad = ⊤
AreTold outcome = ⊥

-- the same text was written in both calls
abbrev pub WroteTheSame : (before now before' now' : Option (List ℕ)) → Type 0
WroteTheSame before now before' now' = (text : List ℕ) × Appends before now text × Appends before' now' text

-- Two calls that tell the baselines of one project and its sources end alike, and write the same.
abbrev pub BaselineCallsAgree : Type 0
BaselineCallsAgree = (c d : Prepared) (before now before' now' : Option (List ℕ)) (outcome other : Outcome) → IsPlan c → IsPlan d → c.campaign.meta ≡ d.campaign.meta
    → TellsBaselines c before now outcome → TellsBaselines d before' now' other → AreTold outcome → AreTold other → (outcome ≡ other) × WroteTheSame before now before' now'

-- Where they are told, it is Done just where each bench passes, and else BaselineBad.
abbrev pub BaselineBadIsExact : Type 0
BaselineBadIsExact = (c : Prepared) (list : List Baseline) (before now : Option (List ℕ)) (outcome : Outcome) → IsPlan c → HasBaselines c list → TellsBaselines c before now outcome
    → (outcome ≡ Done → AllPass list) × (outcome ≡ BaselineBad → ¬ AllPass list)

-- Where the files are refused, the call ends with that, or it was cut short.
abbrev pub BaselineRefusalsAreExact : Type 0
BaselineRefusalsAreExact = (map : Held) (before now : Option (List ℕ)) (refusal : Refusal) (outcome : Outcome) → RefusesFiles map refusal → ToldBaselines (Some map) before now outcome → (outcome ≡ outcome_of refusal) ⊎ IsCutShort outcome

-- Where they make a campaign and its text can be written, its baselines are told, or the call was cut short.
abbrev pub BaselinesComplete : Type 0
BaselinesComplete = (map : Held) (before now : Option (List ℕ)) (c : Prepared) (outcome : Outcome) → IsMade (Some map) c → ToldBaselines (Some map) before now outcome → outcome ≢ WriteFault → AreTold outcome ⊎ IsCutShort outcome
