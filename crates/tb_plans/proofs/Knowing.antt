-- Nodes whose expressions and assignments are known, whatever is known of their tasks.
use Rattle.tb_plans.proofs.Common.{ℕ, List, slice_index_or, Names, IsWhole, Node, IsKnown, AllKnown, CanAssign}
use Rattle.vlog_syntax.specs.declared.stmt.Argument.{Argument}
use Rattle.tb_machine.specs.declared.node.Node.TheVariants as n

without_task : (names : Names) (performs : List ℕ → List Argument → Type 0) (node : Node) → IsKnown (IsWhole names) (CanAssign names) performs node → IsKnown (IsWhole names) (CanAssign names) (λ name arguments. Unit {0}) node
without_task names performs (n.SystemTaskEnable name arguments) known = tt
without_task names performs node known = known

pub without_tasks : (names : Names) (performs : List ℕ → List Argument → Type 0) (nodes : List Node) → AllKnown (IsWhole names) (CanAssign names) performs nodes → AllKnown (IsWhole names) (CanAssign names) (λ name arguments. Unit {0}) nodes
without_tasks names performs nodes known k node h = without_task names performs (slice_index_or nodes k node) (known k node h)
