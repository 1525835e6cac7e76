-- Laws of netlists and their mutants.
use Rattle.std.specs.Prelude.{◌↔◌, ℕ, List}
use Rattle.netlist_core.specs.declared.raw.RawNetlist.{RawNetlist}
use Rattle.netlist_core.specs.Checked.{Plan, IsSound}
use Rattle.netlist_core.specs.Solutions.{FitsInputs, FitsRegisters}
use Rattle.mutation_sites.specs.declared.site.Site.{Site}
use Rattle.mutation_sites.specs.Mutants.{RunsAlike, HasEachRun}
use Rattle.step_trials.specs.Equal.{Machine, design, mutant, OneStepEqual, EqualOnAllRuns, HasOneSolution}

-- Machines that are equal in one step have equal outputs on every list of inputs.
abbrev pub OneStepEqualityLasts : Type 0
OneStepEqualityLasts = (a b : Machine) → OneStepEqual a b → EqualOnAllRuns a b

-- A sound netlist has exactly one solution for all inputs and registers that fit,
abbrev pub DesignsHaveOneSolution : Type 0
DesignsHaveOneSolution = (plan : Plan) → IsSound plan → (inputs state : List ℕ) → FitsInputs plan.raw inputs → FitsRegisters plan.raw state → HasOneSolution (design plan.raw) inputs state

-- and so has its mutant at each site.
abbrev pub MutantsHaveOneSolution : Type 0
MutantsHaveOneSolution = (plan : Plan) → IsSound plan → (site : Site) → (inputs state : List ℕ) → FitsInputs plan.raw inputs → FitsRegisters plan.raw state → HasOneSolution (mutant plan.raw site) inputs state

-- A netlist that runs as the mutant at a site is equal to the design in one step exactly where the mutant is.
abbrev pub MutantsAreNetlists : Type 0
MutantsAreNetlists = (netlist mutated : RawNetlist) (site : Site) → RunsAlike netlist mutated site → HasEachRun netlist mutated site → (OneStepEqual (design netlist) (design mutated) ↔ OneStepEqual (design netlist) (mutant netlist site))
