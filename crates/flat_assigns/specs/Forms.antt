-- Expressions that have the form of a left side (IEEE 1364-2005, A.8.5), as those that outputs of instances are connected to.
use Rattle.std.specs.Prelude.{◌≡◌, List, [], ◌∷◌, map}
use Rattle.vlog_syntax.specs.declared.expr.Expr.{Expr}
use Rattle.vlog_syntax.specs.declared.expr.Expr.TheOpen as x
use Rattle.vlog_syntax.specs.declared.expr.Expr.TheOpen.{Expr-F}
use Rattle.vlog_syntax.specs.declared.expr.Expr.TheFolds.{fold-Expr, map-Expr}
use Rattle.vlog_syntax.specs.declared.expr.Expr.TheViews.{roll-Expr}
use Rattle.vlog_syntax.specs.declared.left_side.LeftSide.{LeftSide}
use Rattle.vlog_effects.specs.LeftSides.{Part, Whole, Bit, Range, Indexed, concatenated, parts_of}
use Rattle.elab_proc.specs.Refusals.{same_form}

-- an expression, and the parts that it has as a left side, from the left
pub record Form : Type 0 where
  pub expr : Expr
  pub parts : List Part

abbrev pub parts_in : Expr-F Form → List Part
parts_in (x.Name n) = record { name = n; select = Whole } ∷ []
parts_in (x.BitSelect n at i) = record { name = n; select = Bit at i.expr } ∷ []
parts_in (x.PartSelect n at msb lsb) = record { name = n; select = Range at msb.expr lsb.expr } ∷ []
parts_in (x.IndexedPartSelect n at base count) = record { name = n; select = Indexed at base.expr count.expr } ∷ []
parts_in (x.Concatenation at forms) = concatenated (map (λ f. f.parts) forms)
parts_in other = []

abbrev pub formed : Expr-F Form → Form
formed y = record { expr = roll-Expr (map-Expr Form Expr (λ f. f.expr) y); parts = parts_in y }

abbrev pub form : Expr → Form
form = fold-Expr Form formed

abbrev pub form_parts : Expr → List Part
form_parts e = (form e).parts

-- They are those of each left side of the same form.
abbrev pub FormsHaveParts : Type 0
FormsHaveParts = (left : LeftSide) → form_parts (same_form left) ≡ parts_of left
