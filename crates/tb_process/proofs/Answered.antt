-- What statements ask for is answered, since it is known and their plans are right.
use Rattle.tb_process.proofs.Common.{◌≡◌, ℕ, List, sym, subst, All-get_or, Names, Node, CanPerform, CanAnswer}
use Rattle.std.proofs.lemmas.Option.{slice_get_within, get_or_from_slice_get}
use Rattle.vlog_meaning.specs.Senses.{IsWhole}
use Rattle.tb_machine.specs.declared.node.Node.TheVariants as n
use Rattle.tb_machine.specs.Known.{IsKnown, AllKnown, Request, IsAnswered, AllAnswered}
use Rattle.tb_assigns.specs.Updates.{CanAssign}
use Rattle.tb_plans.specs.declared.plan.Plan.{Plan}
use Rattle.tb_plans.specs.Plans.{IsPlanned, ArePlans, plan_at}
use Rattle.tb_evaluator.proofs.Evaluating.{labels_whole}

abbrev Known : Names → Node → Type 0
Known names node = IsKnown (IsWhole names) (CanAssign names) (CanPerform names) node

abbrev Planned : Names → List Plan → ℕ → Request → Type 0
Planned names plans k request = IsPlanned names (plan_at plans k) request

abbrev Answers : Names → List Plan → ℕ → Request → Type 0
Answers names plans k request = CanAnswer names (plan_at plans k) request

node_answered : (names : Names) (plans : List Plan) (k : ℕ) (node : Node) → Known names node → IsAnswered (Planned names plans) k node → IsAnswered (Answers names plans) k node
node_answered names plans k n.Null known planned = tt
node_answered names plans k (n.SeqBlock body) known planned = tt
node_answered names plans k (n.Conditional x a b) known planned = (known, planned)
node_answered names plans k (n.Case kind x items) known planned = ((known.0, labels_whole names items known.1), planned)
node_answered names plans k (n.For start x step body) known planned = ((known.0, planned.0), (known.1, planned.1), (known.2, planned.2))
node_answered names plans k (n.While x body) known planned = (known, planned)
node_answered names plans k (n.Repeat x body) known planned = (known, planned)
node_answered names plans k (n.Forever body) known planned = tt
node_answered names plans k (n.EventControl event body) known planned = tt
node_answered names plans k n.Finish known planned = tt
node_answered names plans k (n.SystemTaskEnable name arguments) known planned = (known, planned)
node_answered names plans k (n.Blocking a) known planned = (known, planned)
node_answered names plans k (n.Nonblocking a) known planned = (known, planned)

all_answered : (names : Names) (nodes : List Node) (plans : List Plan) → AllKnown (IsWhole names) (CanAssign names) (CanPerform names) nodes → ArePlans names nodes plans → AllAnswered (Answers names plans) nodes
all_answered names nodes plans known are k node at =
    let there : Known names node = subst (Known names) (get_or_from_slice_get nodes k node node at) (All-get_or (Known names) nodes k node (slice_get_within nodes k node at) known) in
    node_answered names plans k node there (are.answered k node at)

-- the same of what is lent of a bench
pub lent_answered : (names : Names) (nodes code : List Node) (plans lent : List Plan) → nodes ≡ code → lent ≡ plans → AllKnown (IsWhole names) (CanAssign names) (CanPerform names) code → ArePlans names code plans → AllAnswered (Answers names lent) nodes
lent_answered names nodes code plans lent same is known are = subst (λ (ns : List Node). AllAnswered (Answers names lent) ns) (sym same) (subst (λ (ps : List Plan). AllAnswered (Answers names ps) code) (sym is) (all_answered names code plans known are))
