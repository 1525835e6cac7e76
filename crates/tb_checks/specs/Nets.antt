-- What is wrong in the assigns of a testbench and in the connections of its instance, in which nothing is drawn.
use Rattle.std.specs.Prelude.{ℕ, List, [], ◌∷◌, ◌++◌, map, Option, None, Some}
use Rattle.std.specs.List.{flat_map}
use Rattle.mcy_base.specs.declared.span.Span.{Span}
use Rattle.vlog_syntax.specs.declared.expr.Expr.{Expr}
use Rattle.vlog_syntax.specs.declared.expr.Expr.TheOpen as e
use Rattle.vlog_syntax.specs.declared.expr.Expr.TheOpen.{Expr-F}
use Rattle.vlog_syntax.specs.declared.expr.Expr.TheFolds.{fold-Expr}
use Rattle.vlog_syntax.specs.declared.left_side.LeftSide.{LeftSide}
use Rattle.vlog_meaning.specs.declared.fault.Cause.TheVariants.{SystemFunction}
use Rattle.vlog_meaning.specs.declared.fault.Fault.{Fault}
use Rattle.vlog_meaning.specs.declared.function.Function.{Function}
use Rattle.vlog_meaning.specs.declared.function.Function.TheVariants.{Random}
use Rattle.vlog_meaning.specs.Functions.{function_of}
use Rattle.vlog_meaning.specs.Scopes.{Names}
use Rattle.vlog_meaning.specs.Senses.{sense, assigned, fault, or_else, own_zeros}
use Rattle.vlog_effects.specs.Expressions.{width_of}
use Rattle.vlog_effects.specs.LeftSides.{Part, parts_of}
use Rattle.vlog_refusals.specs.Expressions.{divisions, index_faults}
use Rattle.elab_proc.specs.Refusals.{same_form}
use Rattle.tb_faults.specs.declared.fault.BenchFault.{BenchFault}
use Rattle.tb_faults.specs.declared.fault.BenchFault.TheVariants.{Wrong}
use Rattle.tb_checks.specs.Expressions.{wrong}
use Rattle.tb_checks.specs.Lefts.{part_faults}

-- The places of `$random`.

abbrev pub all_randoms : List (List Span) → List Span
all_randoms [] = []
all_randoms (x ∷ more) = x ++ all_randoms more

abbrev pub call_random : Option Function → Span → List Span
call_random (Some Random) span = span ∷ []
call_random function span = []

abbrev pub randoms_step : Expr-F (List Span) → List Span
randoms_step (e.Number n) = []
randoms_step (e.Name n) = []
randoms_step (e.BitSelect n at index) = index
randoms_step (e.PartSelect n at msb lsb) = msb ++ lsb
randoms_step (e.IndexedPartSelect n at base width) = base ++ width
randoms_step (e.Parenthesized at inner) = inner
randoms_step (e.Unary at operator operand) = operand
randoms_step (e.Binary at operator left right) = left ++ right
randoms_step (e.Conditional at condition first second) = condition ++ (first ++ second)
randoms_step (e.Concatenation at parts) = all_randoms parts
randoms_step (e.MultipleConcatenation at count parts) = count ++ all_randoms parts
randoms_step (e.SystemFunctionCall n arguments) = call_random (function_of n.name) n.span ++ all_randoms arguments

abbrev pub randoms : Expr → List Span
randoms = fold-Expr (List Span) randoms_step

-- what is wrong in an expression of a net
abbrev pub net_wrong : Names → Expr → List Fault
net_wrong names x = wrong names x ++ map (fault SystemFunction) (randoms x)

-- the value of a net of so many bits, as the connection of an input is
abbrev pub value_faults : Names → ℕ → Expr → List Fault
value_faults names width x = or_else (net_wrong names x) (divisions ((sense names x).zeros (assigned (sense names x) width)))

-- an expression that stands as a left side, as the connection of an output does
abbrev pub form_faults : Names → Expr → List Fault
form_faults names x = or_else (net_wrong names x) (divisions (own_zeros (sense names x)))

-- The left side of a net is the same at all times, so its indices are constants (A.8.5).

abbrev pub part_indices : Names → Part → List Fault
part_indices names p = index_faults names p.select

-- why the indices of a left side are no constants
abbrev pub indices_faults : Names → LeftSide → List Fault
indices_faults names left = flat_map (part_indices names) (parts_of left)

-- both sides of an assign, of which the left one is given with the expression of its form
abbrev pub net_faults : Names → (form : Expr) → LeftSide → Expr → List Fault
net_faults names form left right = or_else (((sense names form).faults ++ indices_faults names left) ++ net_wrong names right) (divisions ((sense names right).zeros (assigned (sense names right) (width_of names form))))

-- an assign: both sides, and the names that it writes
abbrev pub assign_faults : Names → LeftSide → Expr → List BenchFault
assign_faults names left value = map Wrong (net_faults names (same_form left) left value) ++ flat_map (part_faults names None) (parts_of left)
