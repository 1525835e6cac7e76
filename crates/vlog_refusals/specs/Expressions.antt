-- What is wrong in expressions, or not supported in them, each at the width and sign at which it is evaluated. Divisions of constants
-- by 0 are looked for where nothing else is wrong. What is not supported rests on what an expression is for.
use Rattle.std.specs.Prelude.{List, [], ◌++◌, map}
use Rattle.mcy_base.specs.declared.span.Span.{Span}
use Rattle.vlog_syntax.specs.declared.expr.Expr.{Expr}
use Rattle.vlog_meaning.specs.declared.fault.Cause.TheVariants.{DivideByZero}
use Rattle.vlog_meaning.specs.declared.fault.Fault.{Fault}
use Rattle.vlog_meaning.specs.Scopes.{Names}
use Rattle.vlog_meaning.specs.Senses.{sense, assigned, constant_faults, fault, or_else, own_zeros}
use Rattle.vlog_effects.specs.Expressions.{width_of}
use Rattle.vlog_effects.specs.LeftSides.{Select, Bit, Indexed}

-- what is wrong in an expression, or not supported in it
abbrev pub wrong : (unsupported : Names → Expr → List Fault) → Names → Expr → List Fault
wrong unsupported names x = (sense names x).faults ++ unsupported names x

-- divisions of constants by 0
abbrev pub divisions : List Span → List Fault
divisions spans = map (fault DivideByZero) spans

-- an expression that stands for itself, as a condition does
abbrev pub own_faults : (unsupported : Names → Expr → List Fault) → Names → Expr → List Fault
own_faults unsupported names x = or_else (wrong unsupported names x) (divisions (own_zeros (sense names x)))

-- The sides of an assignment: the right one is evaluated at the greater width of both.
abbrev pub sides_faults : (unsupported : Names → Expr → List Fault) → Names → Expr → Expr → List Fault
sides_faults unsupported names left right = or_else (wrong unsupported names left ++ wrong unsupported names right) (divisions (own_zeros (sense names left) ++ (sense names right).zeros (assigned (sense names right) (width_of names left))))

-- why the place of what a left side selects is no constant
abbrev pub index_faults : Names → Select → List Fault
index_faults names (Bit at i) = constant_faults (sense names i)
index_faults names (Indexed at base count) = constant_faults (sense names base)
index_faults names select = []
