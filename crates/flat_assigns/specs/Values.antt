-- What the right side of a continuous assignment gives (IEEE 1364-2005, 6.1), and a connection of an instance, which is one
-- (12.3.9.2).
use Rattle.std.specs.Prelude.{ℕ, List}
use Rattle.vlog_syntax.specs.declared.expr.Expr.{Expr}
use Rattle.vlog_meaning.specs.declared.fault.Fault.{Fault}
use Rattle.vlog_meaning.specs.declared.shapes.Shape.{Shape}
use Rattle.vlog_meaning.specs.Scopes.{Names, Store}
use Rattle.vlog_meaning.specs.Senses.{sense, assigned}
use Rattle.elab_expr.specs.Expressions.{refusals}
use Rattle.expr_plans.specs.Made.{Made, made}

-- The right side is evaluated at the greater of both widths, by its own sign (5.4.1 and 5.5).
abbrev pub right_shape : Names → Expr → ℕ → Shape
right_shape names right width = assigned (sense names right) width

abbrev pub right_value : Names → Expr → ℕ → Store → ℕ
right_value names right width store = (sense names right).value store (right_shape names right width)

-- the cells of the right side, where so many bits are written
abbrev pub right_cells : Names → Expr → ℕ → List Made
right_cells names right width = made names right (right_shape names right width)

-- why the right side is refused, where so many bits are written
abbrev pub right_refusals : Names → Expr → ℕ → List Fault
right_refusals names right width = refusals names right (right_shape names right width)
