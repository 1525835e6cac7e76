-- Plans of statements and of nets: each answers what its statement asks for, or nothing.
use Rattle.std.specs.Prelude.{◌≡◌, ℕ, List, length, slice_get, Option, Some, None}
use Rattle.vlog_syntax.specs.declared.stmt.Assignment.{Assignment}
use Rattle.vlog_meaning.specs.Scopes.{Names}
use Rattle.tb_machine.specs.declared.node.Node.{Node}
use Rattle.tb_machine.specs.declared.node.Part.{Part}
use Rattle.tb_machine.specs.declared.node.Part.TheVariants.{Itself, Start, Step}
use Rattle.tb_machine.specs.Known.{Request, Test, Count, Choose, Assign, Perform, AllAnswered}
use Rattle.tb_formulas.specs.declared.formula.Formula.{Formula}
use Rattle.tb_nets.specs.declared.node.NetNode.{NetNode}
use Rattle.tb_nets.specs.declared.node.NetNode.TheVariants as net
use Rattle.tb_plans.specs.declared.plan.Plan.{Plan}
use Rattle.tb_plans.specs.declared.plan.Plan.TheVariants as p
use Rattle.tb_plans.specs.declared.selection.Selection.{Selection}
use Rattle.tb_plans.specs.declared.transfer.Transfer.{Transfer}
use Rattle.tb_plans.specs.declared.transfer.Writing.{Writing}
use Rattle.tb_plans.specs.Transfers.{OfWriting, IsTransferOf}
use Rattle.tb_plans.specs.Selections.{OfCondition, OfChoice}

-- what a plan answers

abbrev pub condition_in : Plan → Option Formula
condition_in (p.Condition f) = Some f
condition_in (p.Loop l) = l.condition
condition_in plan = None

abbrev pub choice_in : Plan → Option Selection
choice_in (p.Choice s) = Some s
choice_in plan = None

abbrev pub writing_in : Plan → Part → Option Writing
writing_in (p.Writing x) Itself = Some x
writing_in (p.Loop l) Start = l.start
writing_in (p.Loop l) Step = l.step
writing_in plan part = None

-- what it answers is right
abbrev pub IsPlanned : Names → Plan → Request → Type 0
IsPlanned names plan (Test x) = OfCondition names x (condition_in plan)
IsPlanned names plan (Count x) = Unit {0}
IsPlanned names plan (Choose kind x labels) = OfChoice names kind x labels (choice_in plan)
IsPlanned names plan (Assign part a) = OfWriting names a (writing_in plan part)
IsPlanned names plan (Perform name arguments) = Unit {0}

abbrev pub or_nothing : Option Plan → Plan
or_nothing None = p.Nothing
or_nothing (Some plan) = plan

abbrev pub plan_at : List Plan → ℕ → Plan
plan_at plans k = or_nothing (slice_get plans k)

-- plans of statements, by their numbers
pub record ArePlans (names : Names) (nodes : List Node) (plans : List Plan) : Type 0 where
  pub long : length plans ≡ length nodes
  pub answered : AllAnswered (λ k request. IsPlanned names (plan_at plans k) request) nodes

-- plans of the assigns among nets, by their numbers
pub record AreNetPlans (names : Names) (nodes : List NetNode) (plans : List (Option Transfer)) : Type 0 where
  pub long : length plans ≡ length nodes
  pub each : (k : ℕ) (a : Assignment) (t : Transfer) → slice_get nodes k ≡ Some (net.Assign a) → slice_get plans k ≡ Some (Some t) → IsTransferOf names a t
