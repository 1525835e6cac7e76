-- Steps one after the other.
use Rattle.std.specs.Prelude.{◌≡◌, ℕ, List, [], ◌∷◌, map}
use Rattle.netlist_core.specs.Runs.{plain, Holds, taken, IsRun}
use Rattle.cycle_sim.specs.Simulated.{Simulated, settled_nets}

-- a step with these inputs leads from the one state to the other
pub record IsStep (s : Simulated) (inputs : List ℕ) (t : Simulated) : Type 0 where
  pub holds : Holds (plain (settled_nets t)) (settled_nets t) s.plan.raw inputs s.registers
  pub taken : t.registers ≡ taken (plain (settled_nets t)) 0 s.plan.raw.registers
  pub plan : t.plan ≡ s.plan

-- the states after steps with these inputs
abbrev pub AreSteps : Simulated → List (List ℕ) → List Simulated → Type 0
AreSteps s [] [] = Unit {0}
AreSteps s (inputs ∷ later) (t ∷ more) = IsStep s inputs t × AreSteps t later more
AreSteps s inputs states = ⊥

-- the nets of these states are the cycles of the netlist's run from the registers of the first one
abbrev pub StepsAreRuns : Type 0
StepsAreRuns = (s : Simulated) (inputs : List (List ℕ)) (states : List Simulated) → AreSteps s inputs states → IsRun s.plan.raw s.registers inputs (map settled_nets states)
