-- Plans of conditions and of case statements, all of whose expressions are formulas.
use Rattle.std.specs.Prelude.{◌≡◌, ℕ, ◌+◌, ◌==◌, Bool, false, not, ◌||◌, List, [], ◌∷◌, Option, Some, None, if◌then◌else◌}
use Rattle.std.specs.List.{All}
use Rattle.rand_pcg.specs.Lcg.{Lcg}
use Rattle.vlog_syntax.specs.declared.expr.Expr.{Expr}
use Rattle.vlog_syntax.specs.declared.stmt.CaseKind.{CaseKind}
use Rattle.vlog_meaning.specs.Scopes.{Names, Store}
use Rattle.tb_values.specs.Values.{condition}
use Rattle.tb_choices.specs.Choices.{agrees, or_default, chosen}
use Rattle.tb_formulas.specs.declared.formula.Formula.{Formula}
use Rattle.tb_formulas.specs.Formulas.{formula_value}
use Rattle.tb_formulas.specs.Signals.{HasSignals}
use Rattle.tb_plans.specs.Values.{FormulaFits}
use Rattle.tb_plans.specs.declared.selection.Label.{Label}
use Rattle.tb_plans.specs.declared.selection.Arm.{Arm}
use Rattle.tb_plans.specs.declared.selection.Selection.{Selection}

-- whether one of the labels has the value's bits, but for those that are no matter
abbrev pub one_agrees : Store → ℕ → List Label → Bool
one_agrees store v [] = false
one_agrees store v (l ∷ more) = agrees l.ignored v (formula_value l.value store) || one_agrees store v more

-- the first arm with such a label; the arms are counted from i on
abbrev pub first_arm : Store → ℕ → ℕ → List Arm → Option ℕ
first_arm store v i [] = None
first_arm store v i (a ∷ more) = if one_agrees store v a.labels then Some i else first_arm store v (i + 1) more

abbrev pub selection_taken : Selection → Store → Option ℕ
selection_taken s store = or_default (first_arm store (formula_value s.selector store) 0 s.arms) s.default

-- formulas over signals of these widths

abbrev pub LabelFits : List ℕ → Label → Type 0
LabelFits widths l = FormulaFits widths l.value

abbrev pub ArmFits : List ℕ → Arm → Type 0
ArmFits widths a = All (LabelFits widths) a.labels

pub record SelectionFits (widths : List ℕ) (s : Selection) : Type 0 where
  pub selector : FormulaFits widths s.selector
  pub arms : All (ArmFits widths) s.arms

-- the plan of a condition, and of a case statement

pub record IsConditionOf (names : Names) (x : Expr) (f : Formula) : Type 0 where
  pub means : (phase : ℕ) (store : Store) (g : Lcg) → condition names phase x store g ≡ (not (formula_value f store == 0), g)
  pub fits : (widths : List ℕ) → HasSignals names widths → FormulaFits widths f

pub record IsSelectionOf (names : Names) (kind : CaseKind) (selector : Expr) (labels : List (List Expr)) (s : Selection) : Type 0 where
  pub means : (phase : ℕ) (store : Store) (g : Lcg) → chosen names phase kind selector labels store g ≡ (selection_taken s store, g)
  pub fits : (widths : List ℕ) → HasSignals names widths → SelectionFits widths s

-- there is none, or it is one of them

abbrev pub OfCondition : Names → Expr → Option Formula → Type 0
OfCondition names x None = Unit {0}
OfCondition names x (Some f) = IsConditionOf names x f

abbrev pub OfChoice : Names → CaseKind → Expr → List (List Expr) → Option Selection → Type 0
OfChoice names kind selector labels None = Unit {0}
OfChoice names kind selector labels (Some s) = IsSelectionOf names kind selector labels s
