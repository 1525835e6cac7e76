-- What is wrong in a process of a testbench, or not supported there. A clock generator is none of these.
use Rattle.std.specs.Prelude.{ℕ, Bool, true, false, List, ◌∷◌, ◌++◌, Option}
use Rattle.mcy_base.specs.declared.span.Span.{Span}
use Rattle.vlog_syntax.specs.declared.feature.Feature.TheVariants as f
use Rattle.vlog_syntax.specs.declared.item.Process.{Process}
use Rattle.vlog_syntax.specs.declared.item.ProcessKind.{ProcessKind}
use Rattle.vlog_syntax.specs.declared.item.ProcessKind.TheVariants as k
use Rattle.vlog_syntax.specs.declared.stmt.CaseItem.{CaseItem}
use Rattle.vlog_syntax.specs.declared.stmt.Stmt.{Stmt, out-Stmt}
use Rattle.vlog_syntax.specs.declared.stmt.Stmt.TheOpen as s
use Rattle.vlog_syntax.specs.declared.stmt.Stmt.TheOpen.{Stmt-F}
use Rattle.vlog_meaning.specs.Scopes.{Names}
use Rattle.tb_faults.specs.declared.fault.BenchFault.{BenchFault}
use Rattle.tb_faults.specs.declared.fault.BenchFault.TheVariants.{Unsupported}
use Rattle.tb_checks.specs.Starts.{starting, sets}
use Rattle.tb_checks.specs.Statements.{Rules, control_faults, stmt_faults}

-- the body of an `initial`, in which the clock may be set
abbrev pub initial_faults : Rules → (may_start : Bool) → Stmt → List BenchFault
initial_faults r true body = starting r body
initial_faults r false body = stmt_faults r body

-- the body of an `always` with its list; in what stands behind the list nothing waits
abbrev pub always_faults : Rules → Span → Stmt → Stmt-F Stmt CaseItem → List BenchFault
always_faults r always body (s.EventControl at control inner) = control_faults r.names r.clock true at control ++ stmt_faults r inner
always_faults r always body layer = Unsupported always f.ClockList ∷ stmt_faults r body

abbrev pub rules_of : Names → Option (List ℕ) → (may_wait : Bool) → Rules
rules_of names clock may_wait = record { names = names; clock = clock; may_wait = may_wait }

abbrev pub kind_faults : Names → Option (List ℕ) → (may_start : Bool) → Process → ProcessKind → List BenchFault
kind_faults names clock may_start p k.Initial = initial_faults (rules_of names clock true) may_start p.body
kind_faults names clock may_start p k.Always = always_faults (rules_of names clock false) p.span p.body (out-Stmt p.body)

abbrev pub process_faults : Names → Option (List ℕ) → (may_start : Bool) → Process → List BenchFault
process_faults names clock may_start p = kind_faults names clock may_start p p.kind

-- whether the process is an `initial` that sets the clock
abbrev pub kind_starts : Rules → Stmt → ProcessKind → Bool
kind_starts r body k.Initial = sets r body
kind_starts r body k.Always = false

abbrev pub starts_clock : Names → Option (List ℕ) → Process → Bool
starts_clock names clock p = kind_starts (rules_of names clock true) p.body p.kind
