-- What evaluations keep of a world, processes keep.
use Rattle.tb_process.proofs.Common.{◌≡◌, ℕ, zero, suc, Bool, true, false, List, [], ◌∷◌, map, Option, None, Some, codes, Result, IfOk, if◌then◌else◌, refl, IfOk-weaker, Names, Event, Ended, Node}
use Rattle.tb_process.proofs.Common.{Process, World, scheduled, Meaning, Work, Do, Again, Loop, Turns, Step, Goes, Waits, Finishes, assign, assign_due, labels_of, execute, step, Suspended, Ran}
use Rattle.tb_process.proofs.Common.{Pauses, Finished, TooLong, goes_on, waits_for, woken, before, all_woken, active, max_statements, Tree, AreRan, meaning}
use Rattle.std.specs.Str.{bytes_eq}
use Rattle.vlog_syntax.specs.declared.expr.Expr.{Expr}
use Rattle.vlog_syntax.specs.declared.stmt.Argument.{Argument}
use Rattle.vlog_syntax.specs.declared.stmt.Assignment.{Assignment}
use Rattle.vlog_syntax.specs.declared.stmt.CaseKind.{CaseKind}
use Rattle.vlog_syntax.specs.declared.stmt.CaseItem.{CaseItem}
use Rattle.vlog_syntax.specs.declared.stmt.Stmt.{Stmt, out-Stmt}
use Rattle.vlog_syntax.specs.declared.stmt.Stmt.TheOpen as s
use Rattle.vlog_syntax.specs.declared.stmt.Stmt.TheOpen.{Stmt-F}
use Rattle.tb_machine.specs.declared.machine.Ended.TheVariants as e

-- a fact on worlds that evaluations keep
pub record Keeps (m : Meaning) (P : World → Type 0) : Type 0 where
  pub holds : (x : Expr) (w : World) → P w → P (m.holds x w).1
  pub count : (x : Expr) (w : World) → P w → P (m.count x w).1
  pub choice : (kind : CaseKind) (x : Expr) (labels : List (List Expr)) (w : World) → P w → P (m.choice kind x labels w).1
  pub assigned : (a : Assignment) (w : World) → P w → P (assign m a w)
  pub scheduled : (a : Assignment) (w : World) → P w → P (scheduled (m.updates a w).1 (m.updates a w).0)
  pub task : (name : List ℕ) (arguments : List Argument) (w : World) → P w → P (m.task name arguments w)

-- Steps.

abbrev After : (World → Type 0) → Step → Type 0
After P (Goes work w) = P w
After P (Waits event work w) = P w
After P (Finishes w) = P w

task_done : (m : Meaning) (P : World → Type 0) (k : Keeps m P) (name : List ℕ) (arguments : List Argument) (rest : List Work) (w : World) (ends : Bool) → P w → After P (if ends then Finishes w else Goes rest (m.task name arguments w))
task_done m P k name arguments rest w true p = p
task_done m P k name arguments rest w false p = k.task name arguments w p

executed : (m : Meaning) (P : World → Type 0) (k : Keeps m P) (x : Stmt-F Stmt CaseItem) (rest : List Work) (w : World) → P w → After P (execute m x rest w)
executed m P k (s.Null span) rest w p = p
executed m P k (s.SeqBlock span name body) rest w p = p
executed m P k (s.Conditional span x a b) rest w p = k.holds x w p
executed m P k (s.Case span kind x items) rest w p = k.choice kind x (map labels_of items) w p
executed m P k (s.For span start x after body) rest w p = p
executed m P k (s.While span x body) rest w p = p
executed m P k (s.Repeat span x body) rest w p = k.count x w p
executed m P k (s.Forever span body) rest w p = p
executed m P k (s.EventControl span event body) rest w p = p
executed m P k (s.DelayControl span x body) rest w p = p
executed m P k (s.SystemTaskEnable name arguments) rest w p = task_done m P k name.name arguments rest w (bytes_eq name.name (codes "$finish")) p
executed m P k (s.BlockingAssignment a) rest w p = k.assigned a w p
executed m P k (s.NonblockingAssignment a) rest w p = k.scheduled a w p

due_done : (m : Meaning) (P : World → Type 0) (k : Keeps m P) (due : Option Assignment) (w : World) → P w → P (assign_due m due w)
due_done m P k None w p = p
due_done m P k (Some a) w p = k.assigned a w p

stepped : (m : Meaning) (P : World → Type 0) (k : Keeps m P) (x : Work) (rest : List Work) (w : World) → P w → After P (step m x rest w)
stepped m P k (Do x) rest w p = executed m P k (out-Stmt x) rest w p
stepped m P k (Again x) rest w p = executed m P k (out-Stmt x) (Again x ∷ rest) w p
stepped m P k (Loop due x after body) rest w p = k.holds x (assign_due m due w) (due_done m P k due w p)
stepped m P k (Turns zero body) rest w p = p
stepped m P k (Turns (suc n) body) rest w p = p

-- Processes.

abbrev pub Left : {A : Type 0} → (World → Type 0) → Ran A → Type 0
Left P (Pauses left a w) = P w
Left P (Finished w) = P w
Left P (TooLong w) = P w

abbrev then_goes : Meaning → Event → ℕ → Step → Ran Suspended
then_goes m event left (Goes work v) = goes_on m event left work v
then_goes m event left (Waits x work v) = Pauses left (record { event = x; work = work }) v
then_goes m event left (Finishes v) = Finished v

gone_after : (m : Meaning) (P : World → Type 0) (event : Event) (left : ℕ) → ((work : List Work) (v : World) → P v → Left P (goes_on m event left work v)) → (x : Step) → After P x → Left P (then_goes m event left x)
gone_after m P event left on (Goes work v) p = on work v p
gone_after m P event left on (Waits x work v) p = p
gone_after m P event left on (Finishes v) p = p

gone : (m : Meaning) (P : World → Type 0) (k : Keeps m P) (event : Event) (left : ℕ) (work : List Work) (w : World) → P w → Left P (goes_on m event left work w)
gone m P k event left [] w p = p
gone m P k event zero (x ∷ rest) w p = p
gone m P k event (suc left) (x ∷ rest) w p = gone_after m P event left (λ work v h. gone m P k event left work v h) (step m x rest w) (stepped m P k x rest w p)

woken_if : (m : Meaning) (P : World → Type 0) (k : Keeps m P) (left : ℕ) (q : Suspended) (w : World) (goes : Bool) → P w → Left P (if goes then goes_on m q.event left q.work w else Pauses left q w)
woken_if m P k left q w true p = gone m P k q.event left q.work w p
woken_if m P k left q w false p = p

left_before : (P : World → Type 0) (q : Suspended) (ran : Ran (List Suspended)) → Left P ran → Left P (before q ran)
left_before P q (Pauses left qs w) p = p
left_before P q (Finished w) p = p
left_before P q (TooLong w) p = p

abbrev then_woken : Meaning → Event → List Suspended → Ran Suspended → Ran (List Suspended)
then_woken m event more (Pauses n q v) = before q (all_woken m event n more v)
then_woken m event more (Finished v) = Finished v
then_woken m event more (TooLong v) = TooLong v

woken_after : (m : Meaning) (P : World → Type 0) (event : Event) (more : List Suspended) → ((n : ℕ) (v : World) → P v → Left P (all_woken m event n more v)) → (ran : Ran Suspended) → Left P ran → Left P (then_woken m event more ran)
woken_after m P event more on (Pauses n q v) p = left_before P q (all_woken m event n more v) (on n v p)
woken_after m P event more on (Finished v) p = p
woken_after m P event more on (TooLong v) p = p

woken_all : (m : Meaning) (P : World → Type 0) (k : Keeps m P) (event : Event) (qs : List Suspended) (left : ℕ) (w : World) → P w → Left P (all_woken m event left qs w)
woken_all m P k event [] left w p = p
woken_all m P k event (q ∷ more) left w p = woken_after m P event more (λ n v h. woken_all m P k event more n v h) (woken m event left q w) (woken_if m P k left q w (waits_for q.event event) p)

abbrev then_active : Meaning → Event → List Suspended → Ran (List Suspended) → Ran (List Suspended)
then_active m event initial (Pauses n qs v) = all_woken m event n initial v
then_active m event initial (Finished v) = Finished v
then_active m event initial (TooLong v) = TooLong v

active_after : (m : Meaning) (P : World → Type 0) (k : Keeps m P) (event : Event) (initial : List Suspended) (ran : Ran (List Suspended)) → Left P ran → Left P (then_active m event initial ran)
active_after m P k event initial (Pauses n qs v) p = woken_all m P k event initial n v p
active_after m P k event initial (Finished v) p = p
active_after m P k event initial (TooLong v) p = p

pub active_keeps : (m : Meaning) (P : World → Type 0) (k : Keeps m P) (event : Event) (always initial : List Suspended) (w : World) → P w → Left P (active m event always initial w)
active_keeps m P k event always initial w p = active_after m P k event initial (all_woken m event max_statements always w) (woken_all m P k event always max_statements w p)

-- The widths of signals.

abbrev HasWidths : List ℕ → World → Type 0
HasWidths widths w = w.widths ≡ widths

keeps_widths : (names : Names) (phase : ℕ) (widths : List ℕ) → Keeps (meaning names phase) (HasWidths widths)
keeps_widths names phase widths = record {
  holds = λ x w p. p;
  count = λ x w p. p;
  choice = λ kind x labels w p. p;
  assigned = λ a w p. p;
  scheduled = λ a w p. p;
  task = λ name arguments w p. p;
}

ran_left : (P : World → Type 0) (nodes : List Node) (tree : Tree) (answer : Ended) (n : ℕ) (ps : List Process) (v : World) (ran : Ran (List Suspended)) → AreRan nodes tree answer n ps v ran → Left P ran → P v
ran_left P nodes tree e.Pauses n ps v (Pauses left qs w) h p = rw h.2 p
ran_left P nodes tree e.Pauses n ps v (Finished w) h p = absurd h
ran_left P nodes tree e.Pauses n ps v (TooLong w) h p = absurd h
ran_left P nodes tree e.Finished n ps v (Pauses left qs w) h p = absurd h
ran_left P nodes tree e.Finished n ps v (Finished w) h p = rw h p
ran_left P nodes tree e.Finished n ps v (TooLong w) h p = absurd h
ran_left P nodes tree e.TooLong n ps v (Pauses left qs w) h p = absurd h
ran_left P nodes tree e.TooLong n ps v (Finished w) h p = absurd h
ran_left P nodes tree e.TooLong n ps v (TooLong w) h p = rw h p

-- the active part of a phase leaves the widths of signals
widths_stay : (names : Names) (phase : ℕ) (event : Event) (always initial : List Suspended) (nodes : List Node) (tree : Tree) (answer : Ended) (left : ℕ) (ps : List Process) (w v : World) → AreRan nodes tree answer left ps v (active (meaning names phase) event always initial w) → v.widths ≡ w.widths
widths_stay names phase event always initial nodes tree answer left ps w v ran = ran_left (HasWidths w.widths) nodes tree answer left ps v (active (meaning names phase) event always initial w) ran (active_keeps (meaning names phase) (HasWidths w.widths) (keeps_widths names phase w.widths) event always initial w refl)

-- the same after either answer, from what is told of all statements of which the nodes are code
pub widths_left : {E : Type 0} (names : Names) (phase : ℕ) (event : Event) (always initial : List Suspended) (nodes : List Node) (tree : Tree) (ps : List Process) (w v : World) (r : Result Ended E) → IfOk r (λ x. (k : ℕ) × AreRan nodes tree x k ps v (active (meaning names phase) event always initial w)) → IfOk r (λ _. v.widths ≡ w.widths)
widths_left names phase event always initial nodes tree ps w v r ran = IfOk-weaker r (λ x. (k : ℕ) × AreRan nodes tree x k ps v (active (meaning names phase) event always initial w)) (λ _. v.widths ≡ w.widths) (λ x h. widths_stay names phase event always initial nodes tree x h.0 ps w v h.1) ran

-- processes that run in a phase leave the widths of signals
pub woken_widths : (names : Names) (phase : ℕ) (event : Event) (qs : List Suspended) (nodes : List Node) (tree : Tree) (answer : Ended) (left n : ℕ) (ps : List Process) (w v : World) → AreRan nodes tree answer n ps v (all_woken (meaning names phase) event left qs w) → v.widths ≡ w.widths
woken_widths names phase event qs nodes tree answer left n ps w v ran = ran_left (HasWidths w.widths) nodes tree answer n ps v (all_woken (meaning names phase) event left qs w) ran (woken_all (meaning names phase) (HasWidths w.widths) (keeps_widths names phase w.widths) event qs left w refl)
