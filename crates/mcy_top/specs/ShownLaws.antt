-- Laws of demos.
use Rattle.std.specs.Prelude.{◌≡◌, ◌≢◌, ◌⊎◌, ℕ, List, Option}
use Rattle.campaign_plan.specs.declared.prepared.Prepared.{Prepared}
use Rattle.campaign_reading.specs.declared.refusal.Refusal.{Refusal}
use Rattle.campaign_outcomes.specs.declared.outcome.Outcome.{Outcome}
use Rattle.campaign_outcomes.specs.declared.outcome.Outcome.TheVariants.{Done, WriteFault, Memory}
use Rattle.made_campaign.specs.Made.{made_held}
use Rattle.mcy_top.specs.Exact.{RefusesFiles}
use Rattle.mcy_top.specs.Outcomes.{outcome_of}
use Rattle.mcy_top.specs.Shown.{IsMadeOf, Shown}

-- Where the texts of the project are refused, the demo ends with that, or there is no memory.
abbrev pub DemoRefusalsAreExact : Type 0
DemoRefusalsAreExact = (seed cells : ℕ) (written written' : Option (List ℕ)) (before now : ℕ) (refusal : Refusal) (outcome : Outcome)
    → RefusesFiles (made_held seed cells) refusal → Shown seed cells written written' before now outcome → (outcome ≡ outcome_of refusal) ⊎ (outcome ≡ Memory)

-- Where they make a campaign and the summary can be written, the demo is done, or there is no memory.
abbrev pub DemosComplete : Type 0
DemosComplete = (seed cells : ℕ) (written written' : Option (List ℕ)) (before now : ℕ) (c : Prepared) (outcome : Outcome)
    → IsMadeOf seed cells c → Shown seed cells written written' before now outcome → outcome ≢ WriteFault → (outcome ≡ Done) ⊎ (outcome ≡ Memory)
