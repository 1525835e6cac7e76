-- Laws of the netlists of campaigns.
use Rattle.std.specs.Prelude.{ℕ, List}
use Rattle.std.specs.List.{Contains}
use Rattle.netlist_core.specs.Solutions.{FitsInputs, FitsRegisters}
use Rattle.mutation_sites.specs.declared.site.Site.{Site}
use Rattle.elab_hier.specs.Accepted.{CanRun}
use Rattle.step_trials.specs.Equal.{design, mutant, HasOneSolution}
use Rattle.campaign_plan.specs.declared.prepared.Prepared.{Prepared}
use Rattle.campaign_plan.specs.Campaigns.{IsPlan}

-- A campaign's netlist is sound,
abbrev pub CampaignsAreSound : Type 0
CampaignsAreSound = (c : Prepared) → IsPlan c → CanRun c.netlist

-- and has exactly one solution for all inputs and registers that fit, as have its mutants at the sites of the campaign, so
-- that no answer of an equivalence test is one on machines that have none.
abbrev pub CampaignsHaveOneSolution : Type 0
CampaignsHaveOneSolution = (c : Prepared) → IsPlan c → (inputs state : List ℕ) → FitsInputs c.netlist inputs → FitsRegisters c.netlist state
    → HasOneSolution (design c.netlist) inputs state × ((site : Site) → Contains c.sites site → HasOneSolution (mutant c.netlist site) inputs state)
