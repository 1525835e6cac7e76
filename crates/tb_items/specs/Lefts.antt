-- Expressions that have the form of a left side (IEEE 1364-2005, A.8.5), and the left sides of these forms.
use Rattle.std.specs.Prelude.{List, [], ◌∷◌, map, Option, None, Some}
use Rattle.mcy_base.specs.declared.span.Span.{Span}
use Rattle.vlog_syntax.specs.declared.expr.Expr.{Expr}
use Rattle.vlog_syntax.specs.declared.expr.Expr.TheOpen as e
use Rattle.vlog_syntax.specs.declared.expr.Expr.TheOpen.{Expr-F}
use Rattle.vlog_syntax.specs.declared.expr.Expr.TheFolds.{fold-Expr, map-Expr}
use Rattle.vlog_syntax.specs.declared.expr.Expr.TheViews.{roll-Expr}
use Rattle.vlog_syntax.specs.declared.left_side.LeftSide.{LeftSide}
use Rattle.vlog_syntax.specs.declared.left_side.LeftSide.TheVariants as l

-- an expression, and the left side of its form, if there is one
pub record Form : Type 0 where
  pub expr : Expr
  pub left : Option LeftSide

abbrev pub with_first : LeftSide → Option (List LeftSide) → Option (List LeftSide)
with_first x None = None
with_first x (Some more) = Some (x ∷ more)

-- all of them, if there is each
abbrev pub all_lefts : List (Option LeftSide) → Option (List LeftSide)
all_lefts [] = Some []
all_lefts (None ∷ more) = None
all_lefts (Some x ∷ more) = with_first x (all_lefts more)

abbrev pub concatenated : Span → Option (List LeftSide) → Option LeftSide
concatenated at None = None
concatenated at (Some parts) = Some (l.Concatenation at parts)

abbrev pub left_in : Expr-F Form → Option LeftSide
left_in (e.Name n) = Some (l.Name n)
left_in (e.BitSelect n at i) = Some (l.BitSelect n at i.expr)
left_in (e.PartSelect n at msb lsb) = Some (l.PartSelect n at msb.expr lsb.expr)
left_in (e.IndexedPartSelect n at base count) = Some (l.IndexedPartSelect n at base.expr count.expr)
left_in (e.Concatenation at forms) = concatenated at (all_lefts (map (λ f. f.left) forms))
left_in other = None

abbrev pub formed : Expr-F Form → Form
formed y = record { expr = roll-Expr (map-Expr Form Expr (λ f. f.expr) y); left = left_in y }

abbrev pub form : Expr → Form
form = fold-Expr Form formed

abbrev pub left_of : Expr → Option LeftSide
left_of x = (form x).left
