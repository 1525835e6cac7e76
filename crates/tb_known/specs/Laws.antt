-- What processes hold in which nothing is wrong is known to the evaluators of a phase.
use Rattle.std.specs.Prelude.{◌≡◌, ℕ, Bool, true, not, ◌||◌, List, [], map, Option}
use Rattle.std.specs.List.{All}
use Rattle.mcy_base.specs.declared.span.Span.{Span}
use Rattle.vlog_syntax.specs.declared.item.Process.{Process}
use Rattle.vlog_syntax.specs.declared.stmt.Argument.{Argument}
use Rattle.vlog_syntax.specs.declared.stmt.Argument.TheVariants as a
use Rattle.vlog_syntax.specs.declared.stmt.Assignment.{Assignment}
use Rattle.vlog_syntax.specs.declared.stmt.EventControl.{EventControl}
use Rattle.vlog_syntax.specs.declared.stmt.Stmt.{Stmt, out-Stmt}
use Rattle.vlog_syntax.specs.declared.stmt.Stmt.TheOpen as s
use Rattle.vlog_meaning.specs.Scopes.{Names}
use Rattle.vlog_meaning.specs.Senses.{IsWhole}
use Rattle.tb_machine.specs.declared.node.Node.{Node}
use Rattle.tb_machine.specs.Known.{AllKnown}
use Rattle.tb_code.specs.Codes.{Adds}
use Rattle.tb_code.specs.Tests.{Tests, all_of, Passes}
use Rattle.tb_assigns.specs.Checks.{has_shape, can_assign}
use Rattle.tb_assigns.specs.Updates.{CanAssign}
use Rattle.tb_evaluator.specs.Meanings.{CanPerform}
use Rattle.tb_checks.specs.Nets.{assign_faults}
use Rattle.tb_checks.specs.Processes.{process_faults}
use Rattle.tb_checks.specs.Statements.{is_print}

abbrev pub argument_passes : Names → Argument → Bool
argument_passes names (a.String text at) = true
argument_passes names (a.Expr x) = has_shape names x

-- expressions have shapes, assignments can be carried out, and so have the arguments of tasks that print
abbrev pub bench_tests : Names → Tests
bench_tests names = record {
  evaluates = has_shape names;
  assigns = can_assign names;
  performs = λ name arguments. not (is_print name) || all_of (map (argument_passes names) arguments);
}

abbrev pub FaultlessPass : Type 0
FaultlessPass = (names : Names) (clock : Option (List ℕ)) (may_start : Bool) (p : Process) → process_faults names clock may_start p ≡ [] → Passes (bench_tests names) p.body

abbrev pub WaitsPass : Type 0
WaitsPass = (names : Names) (x : Stmt) (at : Span) (control : EventControl) (body : Stmt) → out-Stmt x ≡ s.EventControl at control body → Passes (bench_tests names) x → Passes (bench_tests names) body

-- an assign in which nothing is wrong can be carried out
abbrev pub FaultlessAssigns : Type 0
FaultlessAssigns = (names : Names) (x : Assignment) → assign_faults names x.left x.value ≡ [] → can_assign names x ≡ true

abbrev pub PassingIsKnown : Type 0
PassingIsKnown = (names : Names) (nodes : List Node) (numbers : List ℕ) (parts : List Stmt) → Adds [] nodes numbers parts → All (Passes (bench_tests names)) parts → AllKnown (IsWhole names) (CanAssign names) (CanPerform names) nodes
