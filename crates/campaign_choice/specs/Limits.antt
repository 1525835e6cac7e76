-- The limits of what is taken (docs/PROFILE.md).
use Rattle.std.specs.Prelude.{ℕ, ◌<◌, ◌≤◌, length}
use Rattle.mcy_base.specs.declared.kind.Kind.{Kind}
use Rattle.mcy_base.specs.declared.kind.Kind.TheVariants.{FreeBits, Gates, Sites}
use Rattle.netlist_core.specs.declared.raw.RawNetlist.{RawNetlist}
use Rattle.netlist_core.specs.Checked.{free_bits}
use Rattle.pair_gates.specs.Refusals.{max_free}
use Rattle.pair_gates.specs.Weights.{design_gates, max_design_gates}
use Rattle.project_file.specs.declared.project.Project.{Project}
use Rattle.campaign_choice.specs.Projects.{HasEquality}
use Rattle.campaign_choice.specs.Mutations.{all_sites}

-- how many bytes a file may have
abbrev pub max_bytes : ℕ
max_bytes = 1048576

-- how many sites a netlist may have in the modes of a project
abbrev pub max_sites : ℕ
max_sites = 2000000

-- The netlist has few sites, and where a test compares mutants with it, few gates and few free bits.
pub record IsWithinLimits (project : Project) (netlist : RawNetlist) : Type 0 where
  pub few_sites : length (all_sites project netlist) ≤ max_sites
  pub few_gates : HasEquality project → design_gates netlist ≤ max_design_gates
  pub few_bits : HasEquality project → free_bits netlist ≤ max_free

-- It has few sites, and a test of the project compares mutants with it.
abbrev pub IsCompared : Project → RawNetlist → Type 0
IsCompared project netlist = (length (all_sites project netlist) ≤ max_sites) × HasEquality project

-- There are more sites than the limit, else more gates than an equivalence test takes, or else more free bits.
abbrev pub IsExcess : Project → RawNetlist → Kind → Type 0
IsExcess project netlist Sites = max_sites < length (all_sites project netlist)
IsExcess project netlist Gates = IsCompared project netlist × (max_design_gates < design_gates netlist)
IsExcess project netlist FreeBits = IsCompared project netlist × (design_gates netlist ≤ max_design_gates) × (max_free < free_bits netlist)
IsExcess project netlist kind = ⊥
