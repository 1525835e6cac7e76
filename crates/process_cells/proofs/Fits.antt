-- A process in which nothing is refused can be built at the times at which it runs.
use Rattle.process_cells.proofs.Common.{◌≡◌, Bool, true, false, List, [], refl, if◌then◌else◌, Span, Feature, Delay, ClockList, Identifier, Process, CaseItem, Stmt, out-Stmt, Stmt-F, Names, steps_of}
use Rattle.process_cells.proofs.Common.{Sensitivity, Once, Combinational, Clocked, Refused, is_toggle, of_always, of_kind, sensitivity, waiting_refusals, refusals_by, process_refusals, statement}
use Rattle.process_cells.proofs.Common.{process_steps, IsFit, CanBeBuilt}
use Rattle.vlog_syntax.specs.declared.item.ProcessKind.{ProcessKind}
use Rattle.vlog_syntax.specs.declared.item.ProcessKind.TheVariants as k
use Rattle.vlog_syntax.specs.declared.stmt.Stmt.TheOpen as s
use Rattle.process_cells.proofs.Bodies.{can_be_built}

-- A process that is run at changes or at rising edges waits for events at the head of its body.

pub waits_not : (b : Bool) (x y : Span) (p q : Feature) (when : Sensitivity) → (if b then Refused x p else Refused y q) ≡ when → (at : Span) × (feature : Feature) × (Refused at feature ≡ when)
waits_not true x y p q when e = (x, p, e)
waits_not false x y p q when e = (y, q, e)

changing_fit : (names : Names) (written : List Bool) (always : Span) (body : Stmt) (f : Stmt-F Stmt CaseItem) → of_always always f ≡ Combinational → waiting_refusals true names written always f ≡ [] → CanBeBuilt true (steps_of (statement body f) names)
changing_fit names written always body (s.EventControl at control inner) e none = can_be_built true names written always control inner none
changing_fit names written always body (s.DelayControl at delay inner) e none = let found = waits_not (is_toggle (out-Stmt inner)) at always Delay ClockList Combinational e in let not : Refused found.0 found.1 ≡ Combinational = found.2 in absurd cc
changing_fit names written always body other e none = absurd cc

rising_fit : (names : Names) (written : List Bool) (always : Span) (body : Stmt) (n : Identifier) (f : Stmt-F Stmt CaseItem) → of_always always f ≡ Clocked n → waiting_refusals false names written always f ≡ [] → CanBeBuilt false (steps_of (statement body f) names)
rising_fit names written always body n (s.EventControl at control inner) e none = can_be_built false names written always control inner none
rising_fit names written always body n (s.DelayControl at delay inner) e none = let found = waits_not (is_toggle (out-Stmt inner)) at always Delay ClockList (Clocked n) e in let not : Refused found.0 found.1 ≡ Clocked n = found.2 in absurd cc
rising_fit names written always body n other e none = absurd cc

changing_always : (p : Process) (kind : ProcessKind) → of_kind kind p ≡ Combinational → of_always p.span (out-Stmt p.body) ≡ Combinational
changing_always p k.Initial e = absurd cc
changing_always p k.Always e = e

rising_always : (p : Process) (n : Identifier) (kind : ProcessKind) → of_kind kind p ≡ Clocked n → of_always p.span (out-Stmt p.body) ≡ Clocked n
rising_always p n k.Initial e = absurd cc
rising_always p n k.Always e = e

fit_by : (names : Names) (written : List Bool) (p : Process) (when : Sensitivity) → sensitivity p ≡ when → refusals_by names written p.span when p.body ≡ [] → IsFit when (process_steps names p)
fit_by names written p Once is none = tt
fit_by names written p (Refused at feature) is none = tt
fit_by names written p Combinational is none = changing_fit names written p.span p.body (out-Stmt p.body) (changing_always p p.kind is) none
fit_by names written p (Clocked n) is none = rising_fit names written p.span p.body n (out-Stmt p.body) (rising_always p n p.kind is) none

pub process_fit : (names : Names) (written : List Bool) (p : Process) → process_refusals names written p ≡ [] → IsFit (sensitivity p) (process_steps names p)
process_fit names written p none = fit_by names written p (sensitivity p) refl none
