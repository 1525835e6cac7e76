use Rattle.cycle_sim.proofs.Common.{ℕ, List, [], ◌∷◌, map, subst, IsRun, Plan, Simulated, settled_nets}
use Rattle.cycle_sim.specs.Steps.{AreSteps}
use Rattle.cycle_sim.proofs.laws.steps_are_runs.Goals as goal

steps-run : (s : Simulated) (inputs : List (List ℕ)) (states : List Simulated) → AreSteps s inputs states → IsRun s.plan.raw s.registers inputs (map settled_nets states)
steps-run s [] [] are = tt
steps-run s [] (t ∷ more) are = absurd are
steps-run s (now ∷ later) [] are = absurd are
steps-run s (now ∷ later) (t ∷ more) are =
    let rest : IsRun t.plan.raw t.registers later (map settled_nets more) = steps-run t later more are.1 in
    let there : IsRun s.plan.raw t.registers later (map settled_nets more) = subst (λ (p : Plan). IsRun p.raw t.registers later (map settled_nets more)) are.0.plan rest in
    (are.0.holds, subst (λ (r : List ℕ). IsRun s.plan.raw r later (map settled_nets more)) are.0.taken there)

pub returns : goal.returns
returns c = steps-run
