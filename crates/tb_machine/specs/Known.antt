-- Nodes whose expressions, assignments and system tasks are known, and what nodes ask of an evaluator.
use Rattle.std.specs.Prelude.{◌≡◌, ℕ, List, map, Some, slice_get}
use Rattle.std.specs.List.{All}
use Rattle.vlog_syntax.specs.declared.expr.Expr.{Expr}
use Rattle.vlog_syntax.specs.declared.stmt.Argument.{Argument}
use Rattle.vlog_syntax.specs.declared.stmt.Assignment.{Assignment}
use Rattle.vlog_syntax.specs.declared.stmt.CaseKind.{CaseKind}
use Rattle.tb_machine.specs.declared.node.Choice.{Choice}
use Rattle.tb_machine.specs.declared.node.Node.{Node}
use Rattle.tb_machine.specs.declared.node.Node.TheVariants as n
use Rattle.tb_machine.specs.declared.node.Part.{Part}
use Rattle.tb_machine.specs.declared.node.Part.TheVariants.{Itself, Start, Step}
use Rattle.tb_machine.specs.Nodes.{choice_labels}

-- the labels of case items are known
abbrev pub AreKnown : (Expr → Type 0) → List Choice → Type 0
AreKnown knows items = All (λ (i : Choice). All knows i.labels) items

-- what a node evaluates, assigns and performs itself is known
abbrev pub IsKnown : (Expr → Type 0) → (Assignment → Type 0) → (List ℕ → List Argument → Type 0) → Node → Type 0
IsKnown knows assigns performs (n.Conditional x a b) = knows x
IsKnown knows assigns performs (n.Case kind x items) = knows x × AreKnown knows items
IsKnown knows assigns performs (n.For start x step body) = assigns start × knows x × assigns step
IsKnown knows assigns performs (n.While x body) = knows x
IsKnown knows assigns performs (n.Repeat x body) = knows x
IsKnown knows assigns performs (n.SystemTaskEnable name arguments) = performs name.name arguments
IsKnown knows assigns performs (n.Blocking a) = assigns a
IsKnown knows assigns performs (n.Nonblocking a) = assigns a
IsKnown knows assigns performs other = Unit {0}

abbrev pub AllKnown : (Expr → Type 0) → (Assignment → Type 0) → (List ℕ → List Argument → Type 0) → List Node → Type 0
AllKnown knows assigns performs nodes = All (IsKnown knows assigns performs) nodes

-- What a statement asks of an evaluator.
pub data Request : Type 0 where
  -- whether a condition holds
  Test : Expr → Request
  -- the count of a repeat
  Count : Expr → Request
  -- the case item that is taken, by the labels of each
  Choose : CaseKind → Expr → List (List Expr) → Request
  -- an assignment of the statement
  Assign : Part → Assignment → Request
  -- a system task
  Perform : List ℕ → List Argument → Request

-- what the node with this number asks for is answered
abbrev pub IsAnswered : (ℕ → Request → Type 0) → ℕ → Node → Type 0
IsAnswered answers k (n.Conditional x a b) = answers k (Test x)
IsAnswered answers k (n.Case kind x items) = answers k (Choose kind x (map choice_labels items))
IsAnswered answers k (n.For start x step body) = answers k (Assign Start start) × answers k (Test x) × answers k (Assign Step step)
IsAnswered answers k (n.While x body) = answers k (Test x)
IsAnswered answers k (n.Repeat x body) = answers k (Count x)
IsAnswered answers k (n.SystemTaskEnable name arguments) = answers k (Perform name.name arguments)
IsAnswered answers k (n.Blocking a) = answers k (Assign Itself a)
IsAnswered answers k (n.Nonblocking a) = answers k (Assign Itself a)
IsAnswered answers k other = Unit {0}

abbrev pub AllAnswered : (ℕ → Request → Type 0) → List Node → Type 0
AllAnswered answers nodes = (k : ℕ) (node : Node) → slice_get nodes k ≡ Some node → IsAnswered answers k node
