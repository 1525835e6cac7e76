-- Each cycle has exactly one solution.
use Rattle.step_trials.proofs.Common.{ℕ, List, sym, ◌∙◌, RawNetlist, Nets, Sight, plain, Plan, IsSound, all_zero, FitsInputs, FitsRegisters, IsCausal, settled, OrderSettles, OneAnswerBySight}
use Rattle.step_trials.proofs.Common.{plain-causal, HasOneSolution, DesignsHaveOneSolution, MutantsHaveOneSolution}
use Rattle.step_trials.proofs.Sights.{near, near-causal, next-near, shown-near, holds-near, near-holds}

has_one_solution : OrderSettles → OneAnswerBySight → (plan : Plan) → IsSound plan → (sight : Nets → Sight) → IsCausal plan.raw sight → (inputs state : List ℕ) → FitsInputs plan.raw inputs → FitsRegisters plan.raw state → HasOneSolution (record { netlist = plan.raw; sight = sight }) inputs state
has_one_solution settles answers plan sound sight causal inputs state fit fit_state = record {
  solution = (settled sight plan.raw plan.order all_zero inputs state, settles plan sight sound causal all_zero inputs state fit fit_state);
  one = λ x y in_x in_y. let same = answers plan sight sound causal inputs state x y in_x in_y in record { outputs = same.0; next = same.1 };
}

pub designs_solved : OrderSettles → OneAnswerBySight → DesignsHaveOneSolution
designs_solved settles answers plan sound inputs state = has_one_solution settles answers plan sound plain (plain-causal plan.raw) inputs state

-- by what each reader sees near it
pub mutants_solved : OrderSettles → OneAnswerBySight → MutantsHaveOneSolution
mutants_solved settles answers plan sound site inputs state fit fit_state =
    let raw : RawNetlist = plan.raw in
    let known : HasOneSolution (record { netlist = raw; sight = near raw site }) inputs state = has_one_solution settles answers plan sound (near raw site) (near-causal raw site) inputs state fit fit_state in
    record {
      solution = (known.solution.0, near-holds raw site known.solution.0 inputs state known.solution.1);
      one = λ x y in_x in_y. let same = known.one x y (holds-near raw site x inputs state in_x) (holds-near raw site y inputs state in_y) in record {
        outputs = shown-near raw site x ∙ same.outputs ∙ sym (shown-near raw site y);
        next = next-near raw site x ∙ same.next ∙ sym (next-near raw site y);
      };
    }
