-- The law of baselines.
use Rattle.std.specs.Prelude.{◌≡◌, ℕ, List, length}
use Rattle.campaign_plan.specs.declared.prepared.Prepared.{Prepared}
use Rattle.campaign_plan.specs.Campaigns.{IsPlan}
use Rattle.campaign_run.specs.declared.baseline.Baseline.{Baseline}
use Rattle.campaign_run.specs.Baselines.{AreBaselines}

-- Campaigns with the same meta, which has the project and its sources, have the same baselines under a limit: the tests, their words
-- and the cycles.
abbrev pub BaselinesAreOne : Type 0
BaselinesAreOne = (c d : Prepared) (limit : ℕ) (list others : List Baseline) → IsPlan c → IsPlan d → c.campaign.meta ≡ d.campaign.meta
    → AreBaselines c limit (length c.trials) list → AreBaselines d limit (length d.trials) others → list ≡ others
