-- Steps in which two netlists differ, and what a model of their clauses is.
use Rattle.std.specs.Prelude.{◌≡◌, ◌↔◌, ℕ, List, ℤ}
use Rattle.clause_store.specs.Clauses.{Values, IsModel}
use Rattle.netlist_core.specs.declared.raw.RawNetlist.{RawNetlist}
use Rattle.netlist_core.specs.Runs.{Nets, plain, Holds}
use Rattle.step_trials.specs.Equal.{design, StepsAlike, OneStepEqual}
use Rattle.netlist_gates.specs.Meanings.{input_numbers, register_numbers}

-- With these inputs and registers, the netlists don't show the same, or their registers don't take the same.
pub record Differ (a b : RawNetlist) (inputs state : List ℕ) : Type 0 where
  pub first : Nets
  pub second : Nets
  pub in_first : Holds (plain first) first a inputs state
  pub in_second : Holds (plain second) second b inputs state
  pub apart : ¬ StepsAlike (design a) (design b) first second

-- a model whose free bits are these inputs and registers
pub record HasModel (a : RawNetlist) (clauses : List (List ℤ)) (inputs state : List ℕ) : Type 0 where
  pub values : Values
  pub model : IsModel values clauses
  pub inputs_are : input_numbers a values ≡ inputs
  pub state_is : register_numbers a values ≡ state

-- The clauses have a model exactly where the netlists differ: its free bits are the inputs and the registers.
pub record TellDifferences (a b : RawNetlist) (clauses : List (List ℤ)) : Type 0 where
  pub models : (values : Values) → IsModel values clauses → Differ a b (input_numbers a values) (register_numbers a values)
  pub differences : (inputs state : List ℕ) → Differ a b inputs state → HasModel a clauses inputs state
  pub equal : OneStepEqual (design a) (design b) ↔ ((values : Values) → ¬ IsModel values clauses)
