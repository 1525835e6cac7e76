-- Case statements of a testbench (IEEE 1364-2005, 9.5): the selector and all labels are brought to one size. The selector is
-- evaluated, and then the labels in order, up to the first that matches. Where none does, the default is taken.
use Rattle.std.specs.Prelude.{ℕ, ◌+◌, ◌==◌, Bool, true, false, bit_or, List, [], ◌∷◌, Option, Some, None, if◌then◌else◌}
use Rattle.std.specs.List.{All, flat_map}
use Rattle.rand_pcg.specs.Lcg.{Lcg}
use Rattle.vlog_syntax.specs.declared.expr.Expr.{Expr}
use Rattle.vlog_syntax.specs.declared.stmt.CaseKind.{CaseKind}
use Rattle.vlog_meaning.specs.declared.shapes.Shape.{Shape}
use Rattle.vlog_meaning.specs.Scopes.{Names, Store}
use Rattle.vlog_meaning.specs.Senses.{IsWhole}
use Rattle.vlog_effects.specs.Steps.{dont_care}
use Rattle.vlog_refusals.specs.Cases.{common_size}
use Rattle.tb_values.specs.Values.{evaluated}

-- what an evaluation goes by: the phase, the kind of the case, the values of the signals, and the size
pub record Matching : Type 0 where
  pub names : Names
  pub phase : ℕ
  pub kind : CaseKind
  pub store : Store
  pub size : Shape

-- a label matches where it has the selector's bits, but for those that are no matter
abbrev pub agrees : (ignored v u : ℕ) → Bool
agrees ignored v u = bit_or v ignored == bit_or u ignored

-- whether one of the labels of an item matches the value
abbrev pub one_matches : Matching → ℕ → List Expr → Lcg → Bool × Lcg
one_matches m v [] g = (false, g)
one_matches m v (x ∷ more) g = let a = evaluated m.names m.phase x m.store m.size g in if agrees (dont_care m.kind x) v a.0 then (true, a.1) else one_matches m v more a.1

-- the first item with a label that matches; the items are counted from i on
abbrev pub first_match : Matching → ℕ → ℕ → List (List Expr) → Lcg → Option ℕ × Lcg
first_match m v i [] g = (None, g)
first_match m v i (labels ∷ more) g = let found = one_matches m v labels g in if found.0 then (Some i, found.1) else first_match m v (i + 1) more found.1

-- the default is the first item without labels
abbrev pub default_item : ℕ → List (List Expr) → Option ℕ
default_item i [] = None
default_item i ([] ∷ more) = Some i
default_item i ((x ∷ xs) ∷ more) = default_item (i + 1) more

abbrev pub or_default : Option ℕ → Option ℕ → Option ℕ
or_default None default = default
or_default (Some i) default = Some i

-- the size to which the selector and the labels of all items are brought
abbrev pub case_size : Names → Expr → List (List Expr) → Shape
case_size names selector labels = common_size names (selector ∷ flat_map (λ ls. ls) labels)

-- the item that is taken, by its number from 0, and the generator after the evaluations
abbrev pub chosen : Names → ℕ → CaseKind → Expr → List (List Expr) → Store → Lcg → Option ℕ × Lcg
chosen names phase kind selector labels store g =
    let size = case_size names selector labels in
    let v = evaluated names phase selector store size g in
    let found = first_match (record { names = names; phase = phase; kind = kind; store = store; size = size }) v.0 0 labels v.1 in
    (or_default found.0 (default_item 0 labels), found.1)

-- each label has a shape
abbrev pub LabelsWhole : Names → List (List Expr) → Type 0
LabelsWhole names labels = All (All (IsWhole names)) labels
