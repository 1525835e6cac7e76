-- Statements (IEEE 1364-2005, 9) as small steps: what remains of a process, and what its next statement does.
-- A step is one statement, or one test of a loop. Each counts one.
use Rattle.std.specs.Prelude.{ℕ, zero, suc, Bool, List, [], ◌∷◌, ◌++◌, map, Option, None, Some, slice_get, codes, if◌then◌else◌}
use Rattle.std.specs.Str.{bytes_eq}
use Rattle.vlog_syntax.specs.declared.expr.Expr.{Expr}
use Rattle.vlog_syntax.specs.declared.stmt.Argument.{Argument}
use Rattle.vlog_syntax.specs.declared.stmt.Assignment.{Assignment}
use Rattle.vlog_syntax.specs.declared.stmt.CaseKind.{CaseKind}
use Rattle.vlog_syntax.specs.declared.stmt.CaseItem.{CaseItem, out-CaseItem}
use Rattle.vlog_syntax.specs.declared.stmt.Edge.{Edge}
use Rattle.vlog_syntax.specs.declared.stmt.Edge.TheVariants.{Any, Posedge, Negedge}
use Rattle.vlog_syntax.specs.declared.stmt.EventControl.{EventControl}
use Rattle.vlog_syntax.specs.declared.stmt.EventControl.TheVariants as c
use Rattle.vlog_syntax.specs.declared.stmt.Stmt.{Stmt, out-Stmt}
use Rattle.vlog_syntax.specs.declared.stmt.Stmt.TheOpen as s
use Rattle.vlog_syntax.specs.declared.stmt.Stmt.TheOpen.{Stmt-F}
use Rattle.tb_machine.specs.declared.event.Event.{Event}
use Rattle.tb_machine.specs.declared.event.Event.TheVariants.{Start, Rise, Fall}
use Rattle.tb_machine.specs.declared.update.Update.{Update}
use Rattle.tb_machine.specs.Worlds.{World, assigned, scheduled}

-- What expressions, assignments and system tasks mean. An evaluation draws the words of its `$random`, so each gives
-- the world after it.
pub record Meaning : Type 0 where
  -- whether a condition holds
  pub holds : Expr → World → Bool × World
  -- the count of a repeat
  pub count : Expr → World → ℕ × World
  -- the case item that is taken, by the labels of each
  pub choice : CaseKind → Expr → List (List Expr) → World → Option ℕ × World
  -- the updates of an assignment: its right side is evaluated before the indices of its left side
  pub updates : Assignment → World → List Update × World
  -- what a system task other than `$finish` does
  pub task : List ℕ → List Argument → World → World

-- A part of what remains of a process.
pub data Work : Type 0 where
  -- the statement
  Do : Stmt → Work
  -- the statement, for ever
  Again : Stmt → Work
  -- a `for` or `while` loop before a test: the assignment that is due, the condition, the assignment after each turn
  Loop : Option Assignment → Expr → Option Assignment → Stmt → Work
  -- the statement so many times, before a test
  Turns : ℕ → Stmt → Work

-- What a step comes to.
pub data Step : Type 0 where
  -- the process goes on with this work
  Goes : List Work → World → Step
  -- it waits for an event, and then goes on with this work
  Waits : Event → List Work → World → Step
  -- the simulation is finished
  Finishes : World → Step

-- a blocking assignment
abbrev pub assign : Meaning → Assignment → World → World
assign m a w = assigned (m.updates a w).1 (m.updates a w).0

abbrev pub assign_due : Meaning → Option Assignment → World → World
assign_due m None w = w
assign_due m (Some a) w = assign m a w

abbrev pub optional : Option Stmt → List Work
optional None = []
optional (Some x) = Do x ∷ []

abbrev pub labels_of : CaseItem → List Expr
labels_of x = (out-CaseItem x).labels

abbrev pub body_of : Option CaseItem → List Work
body_of None = []
body_of (Some x) = Do (out-CaseItem x).body ∷ []

abbrev pub item_at : List CaseItem → Option ℕ → Option CaseItem
item_at items None = None
item_at items (Some i) = slice_get items i

-- the edge that a wait names
abbrev pub event_of_edge : Edge → Event
event_of_edge Posedge = Rise
event_of_edge Negedge = Fall
event_of_edge Any = Start

abbrev pub event_of : EventControl → Event
event_of (c.List (x ∷ [])) = event_of_edge x.edge
event_of other = Start

-- a statement is executed, before the other work
abbrev pub execute : Meaning → Stmt-F Stmt CaseItem → List Work → World → Step
execute m (s.Null span) rest w = Goes rest w
execute m (s.SeqBlock span name body) rest w = Goes (map Do body ++ rest) w
execute m (s.Conditional span x a b) rest w = Goes ((if (m.holds x w).0 then Do a ∷ [] else optional b) ++ rest) (m.holds x w).1
execute m (s.Case span kind x items) rest w = Goes (body_of (item_at items (m.choice kind x (map labels_of items) w).0) ++ rest) (m.choice kind x (map labels_of items) w).1
execute m (s.For span start x step body) rest w = Goes (Loop (Some start) x (Some step) body ∷ rest) w
execute m (s.While span x body) rest w = Goes (Loop None x None body ∷ rest) w
execute m (s.Repeat span x body) rest w = Goes (Turns (m.count x w).0 body ∷ rest) (m.count x w).1
execute m (s.Forever span body) rest w = Goes (Again body ∷ rest) w
execute m (s.EventControl span event body) rest w = Waits (event_of event) (Do body ∷ rest) w
execute m (s.DelayControl span x body) rest w = Goes (Do body ∷ rest) w
execute m (s.SystemTaskEnable name arguments) rest w = if bytes_eq name.name (codes "$finish") then Finishes w else Goes rest (m.task name.name arguments w)
execute m (s.BlockingAssignment a) rest w = Goes rest (assign m a w)
execute m (s.NonblockingAssignment a) rest w = Goes rest (scheduled (m.updates a w).1 (m.updates a w).0)

-- the next part of the work, before the rest
abbrev pub step : Meaning → Work → List Work → World → Step
step m (Do x) rest w = execute m (out-Stmt x) rest w
step m (Again x) rest w = execute m (out-Stmt x) (Again x ∷ rest) w
step m (Loop due x after body) rest w = let tested = m.holds x (assign_due m due w) in Goes (if tested.0 then Do body ∷ Loop after x after body ∷ rest else rest) tested.1
step m (Turns zero body) rest w = Goes rest w
step m (Turns (suc n) body) rest w = Goes (Do body ∷ Turns n body ∷ rest) w

-- A process between its runs: what it waits for, and what then remains. One that has ended has no work.
pub record Suspended : Type 0 where
  pub event : Event
  pub work : List Work

-- What a run of a process, or of several, comes to.
pub data Ran (A : Type 0) : Type 0 where
  -- it waits or has ended, and so many statements are left of the phase
  Pauses : ℕ → A → World → Ran A
  -- `$finish` was reached
  Finished : World → Ran A
  -- a statement was due, and none was left
  TooLong : World → Ran A

-- A process goes on until it waits or ends, with so many statements left.
abbrev pub goes_on : Meaning → Event → ℕ → List Work → World → Ran Suspended
goes_on m event left [] w = Pauses left (record { event = event; work = [] }) w
goes_on m event zero (x ∷ rest) w = TooLong w
goes_on m event (suc left) (x ∷ rest) w = elim (step m x rest w) [ Goes work v ↦ goes_on m event left work v | Waits e work v ↦ Pauses left (record { event = e; work = work }) v | Finishes v ↦ Finished v ]
