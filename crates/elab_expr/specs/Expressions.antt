-- Why an expression is refused.
use Rattle.std.specs.Prelude.{List, ◌++◌, map}
use Rattle.vlog_syntax.specs.declared.expr.Expr.{Expr}
use Rattle.vlog_meaning.specs.declared.fault.Cause.TheVariants as cause
use Rattle.vlog_meaning.specs.declared.fault.Fault.{Fault}
use Rattle.vlog_meaning.specs.declared.shapes.Shape.{Shape}
use Rattle.vlog_meaning.specs.Scopes.{Names}
use Rattle.vlog_meaning.specs.Senses.{sense, fault, or_else}
use Rattle.expr_plans.specs.Made.{plan}

-- what is wrong in an expression or not supported; where there is none of that, its divisions of constants by 0
abbrev pub refusals : Names → Expr → Shape → List Fault
refusals names x c = or_else ((sense names x).faults ++ (plan names x).unsupported) (map (fault cause.DivideByZero) ((sense names x).zeros c))
