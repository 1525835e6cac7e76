-- Tests of what statements evaluate, assign and perform: whether all in a statement passes, and whether what a node evaluates, assigns and
-- performs itself does.
use Rattle.std.specs.Prelude.{◌≡◌, ℕ, Bool, true, ◌&&◌, ◌||◌, List, [], ◌∷◌, map, Option, None, Some, codes}
use Rattle.std.specs.Str.{bytes_eq}
use Rattle.vlog_syntax.specs.declared.expr.Expr.{Expr}
use Rattle.vlog_syntax.specs.declared.stmt.Argument.{Argument}
use Rattle.vlog_syntax.specs.declared.stmt.Assignment.{Assignment}
use Rattle.vlog_syntax.specs.declared.stmt.CaseItem.{CaseItem}
use Rattle.vlog_syntax.specs.declared.stmt.Stmt.{Stmt}
use Rattle.vlog_syntax.specs.declared.stmt.Stmt.TheOpen as s
use Rattle.vlog_syntax.specs.declared.stmt.Stmt.TheOpen.{Stmt-F, CaseItem-F}
use Rattle.vlog_syntax.specs.declared.stmt.Stmt.TheFolds.{fold-Stmt, fold-CaseItem}
use Rattle.tb_machine.specs.declared.node.Node.{Node}
use Rattle.tb_machine.specs.declared.node.Node.TheVariants as n
use Rattle.tb_machine.specs.Nodes.{choice_labels}

pub record Tests : Type 0 where
  -- a condition, a count, a selector or a label
  pub evaluates : Expr → Bool
  pub assigns : Assignment → Bool
  -- a task other than `$finish`, by its name
  pub performs : List ℕ → List Argument → Bool

abbrev pub all_of : List Bool → Bool
all_of [] = true
all_of (b ∷ more) = b && all_of more

abbrev pub labels_pass : Tests → List Expr → Bool
labels_pass t labels = all_of (map t.evaluates labels)

abbrev pub else_passes : Option Bool → Bool
else_passes None = true
else_passes (Some b) = b

abbrev pub task_passes : Tests → List ℕ → List Argument → Bool
task_passes t name arguments = bytes_eq name (codes "$finish") || t.performs name arguments

abbrev pub passes_step : Tests → Stmt-F Bool Bool → Bool
passes_step t (s.Null at) = true
passes_step t (s.SeqBlock at label body) = all_of body
passes_step t (s.Conditional at x first second) = t.evaluates x && (first && else_passes second)
passes_step t (s.Case at kind x items) = t.evaluates x && all_of items
passes_step t (s.For at start x step body) = t.assigns start && (t.evaluates x && (t.assigns step && body))
passes_step t (s.While at x body) = t.evaluates x && body
passes_step t (s.Repeat at x body) = t.evaluates x && body
passes_step t (s.Forever at body) = body
passes_step t (s.EventControl at control body) = body
passes_step t (s.DelayControl at x body) = body
passes_step t (s.SystemTaskEnable name arguments) = task_passes t name.name arguments
passes_step t (s.BlockingAssignment a) = t.assigns a
passes_step t (s.NonblockingAssignment a) = t.assigns a

abbrev pub item_step : Tests → CaseItem-F Bool Bool → Bool
item_step t i = labels_pass t i.labels && i.body

abbrev pub passes : Tests → Stmt → Bool
passes t = fold-Stmt Bool Bool (passes_step t) (item_step t)

abbrev pub Passes : Tests → Stmt → Type 0
Passes t x = passes t x ≡ true

-- nodes

abbrev pub all_labels_pass : Tests → List (List Expr) → Bool
all_labels_pass t [] = true
all_labels_pass t (labels ∷ more) = labels_pass t labels && all_labels_pass t more

abbrev pub node_passes : Tests → Node → Bool
node_passes t (n.Conditional x a b) = t.evaluates x
node_passes t (n.Case kind x items) = t.evaluates x && all_labels_pass t (map choice_labels items)
node_passes t (n.For start x step body) = t.assigns start && (t.evaluates x && t.assigns step)
node_passes t (n.While x body) = t.evaluates x
node_passes t (n.Repeat x body) = t.evaluates x
node_passes t (n.SystemTaskEnable name arguments) = t.performs name.name arguments
node_passes t (n.Blocking a) = t.assigns a
node_passes t (n.Nonblocking a) = t.assigns a
node_passes t other = true

abbrev pub NodePasses : Tests → Node → Type 0
NodePasses t node = node_passes t node ≡ true

-- For proofs alone.

abbrev pub item_passes : Tests → CaseItem → Bool
item_passes t = fold-CaseItem Bool Bool (passes_step t) (item_step t)
