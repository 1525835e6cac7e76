-- Places of trees: that of the first token.
use Rattle.mcy_base.specs.declared.span.Span.{Span}
use Rattle.vlog_syntax.specs.declared.expr.Expr.{Expr}
use Rattle.vlog_syntax.specs.declared.expr.Expr.TheOpen as e
use Rattle.vlog_syntax.specs.declared.expr.Expr.TheOpen.{Expr-F}
use Rattle.vlog_syntax.specs.declared.expr.Expr.TheFolds.{fold-Expr}
use Rattle.vlog_syntax.specs.declared.left_side.LeftSide.{LeftSide, out-LeftSide}
use Rattle.vlog_syntax.specs.declared.left_side.LeftSide.TheOpen as l
use Rattle.vlog_syntax.specs.declared.left_side.LeftSide.TheOpen.{LeftSide-F}

abbrev pub first_step : Expr-F Span → Span
first_step (e.Number n) = n.span
first_step (e.Name n) = n.span
first_step (e.BitSelect n s x) = n.span
first_step (e.PartSelect n s x y) = n.span
first_step (e.IndexedPartSelect n s x y) = n.span
first_step (e.Parenthesized s x) = s
first_step (e.Unary s o x) = s
first_step (e.Binary s o x y) = x
first_step (e.Conditional s x y z) = x
first_step (e.Concatenation s xs) = s
first_step (e.MultipleConcatenation s x xs) = s
first_step (e.SystemFunctionCall n xs) = n.span

abbrev pub first_token : Expr → Span
first_token = fold-Expr Span first_step

abbrev pub left_first : LeftSide-F LeftSide → Span
left_first (l.Name n) = n.span
left_first (l.BitSelect n s x) = n.span
left_first (l.PartSelect n s x y) = n.span
left_first (l.IndexedPartSelect n s x y) = n.span
left_first (l.Concatenation s ls) = s

abbrev pub left_first_token : LeftSide → Span
left_first_token x = left_first (out-LeftSide x)
