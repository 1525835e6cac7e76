-- Statements as code: of which statements a list of nodes is code, and what more nodes add to it. Running such nodes is
-- running their statements, by what nodes do.
use Rattle.std.specs.Prelude.{◌≡◌, ℕ, ◌<◌, List, [], ◌∷◌, ◌++◌, map, length}
use Rattle.std.specs.List.{All}
use Rattle.vlog_syntax.specs.declared.stmt.Stmt.{Stmt}
use Rattle.vlog_syntax.specs.declared.stmt.CaseItem.{CaseItem, out-CaseItem}
use Rattle.tb_machine.specs.declared.event.Event.{Event}
use Rattle.tb_machine.specs.declared.node.Choice.{Choice}
use Rattle.tb_machine.specs.declared.node.Node.{Node}
use Rattle.tb_machine.specs.Steps.{Do, Suspended}
use Rattle.tb_machine.specs.Nodes.{tree_of, IsCode, AreClosed}
use Rattle.tb_code.specs.Tests.{Tests, Passes, NodePasses}

-- Nodes that are code of these statements, and name one another alone. What they evaluate, assign and perform is in the statements:
-- where all in these passes tests, it does.
pub record IsWhole (nodes : List Node) (trees : List Stmt) : Type 0 where
  pub code : IsCode nodes trees
  pub closed : AreClosed nodes
  pub passing : (t : Tests) → All (Passes t) trees → All (NodePasses t) nodes

-- The nodes are code of these statements and of more, and those at the numbers are code of the parts. The more are parts of these.
pub record Holds (trees : List Stmt) (nodes : List Node) (numbers : List ℕ) (parts : List Stmt) : Type 0 where
  pub more : List Stmt
  pub whole : IsWhole nodes (trees ++ more)
  pub stand : map (tree_of (trees ++ more)) numbers ≡ parts
  pub below : All (λ k. k < length nodes) numbers
  pub passing : (t : Tests) → All (Passes t) parts → All (Passes t) more

-- Nodes become more, those of the parts among them; of whatever statements they were code, they still are.
abbrev pub Adds : (before after : List Node) (numbers : List ℕ) (parts : List Stmt) → Type 0
Adds before after numbers parts = (trees : List Stmt) → IsWhole before trees → Holds trees after numbers parts

-- a process that waits for an event, and then carries out a statement
abbrev pub waiting : Event → Stmt → Suspended
waiting event x = record { event = event; work = Do x ∷ [] }

-- What nodes that were added to none say: there are statements of which they are code, and at the numbers stand the parts.
abbrev pub AreCodeOf : Type 0
AreCodeOf = (nodes : List Node) (numbers : List ℕ) (parts : List Stmt) → Adds [] nodes numbers parts → Holds [] nodes numbers parts

-- For proofs alone.

-- one node more, with its number
abbrev pub Pushed : List Node → Node → List Node → ℕ → Type 0
Pushed before node after number = (after ≡ before ++ node ∷ []) × (number ≡ length before)

-- the parts of a case statement
abbrev pub part_of : CaseItem → Stmt
part_of x = (out-CaseItem x).body

abbrev pub part_number : Choice → ℕ
part_number x = x.body
