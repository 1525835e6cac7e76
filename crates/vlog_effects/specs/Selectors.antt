-- Selectors of a case that are numbers of their own width, brought to a greater size (IEEE 1364-2005, 5.4.1 and 9.5).
use Rattle.std.specs.Prelude.{Bool, true, false, ◌&&◌, ◌||◌}
use Rattle.vlog_syntax.specs.declared.expr.Expr.{Expr}
use Rattle.vlog_syntax.specs.declared.expr.Expr.TheOpen as e
use Rattle.vlog_syntax.specs.declared.expr.Expr.TheOpen.{Expr-F}
use Rattle.vlog_syntax.specs.declared.expr.Expr.TheFolds.{fold-Expr}
use Rattle.vlog_syntax.specs.declared.operator.BinaryOperator.{BinaryOperator}
use Rattle.vlog_syntax.specs.declared.operator.BinaryOperator.TheVariants.{BitwiseAnd, BitwiseXor, BitwiseOr}
use Rattle.vlog_meaning.specs.declared.operator.Sizing.{Sizing}
use Rattle.vlog_meaning.specs.declared.operator.Sizing.TheVariants.{Common, Left, Compared, Apart}
use Rattle.vlog_meaning.specs.Operators.{sizing, is_reduction}

-- comparisons, `&&` and `||`, which have one bit
abbrev pub is_test : Sizing → Bool
is_test Common = false
is_test Left = false
is_test Compared = true
is_test Apart = true

-- `&`, `^` and `|` set no bit that is 0 in both operands
abbrev pub is_bitwise : BinaryOperator → Bool
is_bitwise BitwiseAnd = true
is_bitwise BitwiseXor = true
is_bitwise BitwiseOr = true
is_bitwise op = false

abbrev pub keeps_step : Expr-F Bool → Bool
keeps_step (e.Number n) = true
keeps_step (e.Name n) = true
keeps_step (e.BitSelect n s i) = true
keeps_step (e.PartSelect n s msb lsb) = true
keeps_step (e.IndexedPartSelect n s base width) = true
keeps_step (e.Parenthesized s i) = i
keeps_step (e.Unary s op i) = is_reduction op
keeps_step (e.Binary s op i j) = is_test (sizing op) || is_bitwise op && (i && j)
keeps_step (e.Conditional s c i j) = i && j
keeps_step (e.Concatenation s parts) = true
keeps_step (e.MultipleConcatenation s count parts) = true
keeps_step (e.SystemFunctionCall n arguments) = false

-- by its form, the bits of an unsigned expression above its own width are 0, at whatever size it is evaluated
abbrev pub keeps_width : Expr → Bool
keeps_width = fold-Expr Bool keeps_step
