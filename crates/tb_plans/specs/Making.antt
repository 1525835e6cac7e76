-- Parts of plans: targets of left sides, arms of case statements, and the plan of one node.
use Rattle.std.specs.Prelude.{◌≡◌, ℕ, List, Option, Some, None}
use Rattle.std.specs.List.{AllZip}
use Rattle.rand_pcg.specs.Lcg.{Lcg}
use Rattle.vlog_syntax.specs.declared.expr.Expr.{Expr}
use Rattle.vlog_syntax.specs.declared.stmt.Assignment.{Assignment}
use Rattle.vlog_syntax.specs.declared.stmt.CaseKind.{CaseKind}
use Rattle.vlog_meaning.specs.declared.shapes.Shape.{Shape}
use Rattle.vlog_meaning.specs.Scopes.{Names, Store}
use Rattle.vlog_meaning.specs.Senses.{sense, assigned}
use Rattle.vlog_effects.specs.LeftSides.{Part, parts_of, parts_width}
use Rattle.vlog_effects.specs.Steps.{dont_care}
use Rattle.tb_machine.specs.declared.node.Choice.{Choice}
use Rattle.tb_machine.specs.declared.node.Node.{Node}
use Rattle.tb_machine.specs.declared.update.Update.{Update}
use Rattle.tb_machine.specs.Known.{IsAnswered}
use Rattle.tb_machine.specs.Nodes.{choice_labels}
use Rattle.tb_assigns.specs.Updates.{windows_drawn, updates_of}
use Rattle.tb_formulas.specs.Signals.{HasSignals}
use Rattle.tb_nets.specs.declared.node.NetNode.{NetNode}
use Rattle.tb_nets.specs.declared.node.NetNode.TheVariants as net
use Rattle.tb_plans.specs.declared.plan.Plan.{Plan}
use Rattle.tb_plans.specs.declared.selection.Arm.{Arm}
use Rattle.tb_plans.specs.declared.selection.Label.{Label}
use Rattle.tb_plans.specs.declared.target.Target.{Target}
use Rattle.tb_plans.specs.declared.transfer.Transfer.{Transfer}
use Rattle.tb_plans.specs.Plans.{IsPlanned}
use Rattle.tb_plans.specs.Transfers.{target_updates, TargetFits, OfTransfer}
use Rattle.tb_plans.specs.Values.{IsValueOf}

-- For proofs alone.

-- the width and sign of an assignment
abbrev pub context_is : Names → Assignment → Shape
context_is names a = assigned (sense names a.value) (parts_width names (parts_of a.left))

-- what the parts of a left side write of a value, and the generator after their indices
abbrev pub parts_written : Names → ℕ → Store → List Part → ℕ → Lcg → List Update × Lcg
parts_written names phase store parts v g = let d = windows_drawn names phase store parts g in (updates_of d.0 v, d.1)

-- the target of these parts, for values of so many bits
pub record IsTargetOf (names : Names) (parts : List Part) (bits : ℕ) (t : Target) : Type 0 where
  pub means : (phase : ℕ) (store : Store) (v : ℕ) (g : Lcg) → parts_written names phase store parts v g ≡ (target_updates t store v, g)
  pub fits : (widths : List ℕ) → HasSignals names widths → TargetFits widths bits t

abbrev pub OfTarget : Names → List Part → ℕ → Option Target → Type 0
OfTarget names parts bits None = Unit {0}
OfTarget names parts bits (Some t) = IsTargetOf names parts bits t

-- a label, brought to the size of its case
pub record IsLabelOf (names : Names) (kind : CaseKind) (size : Shape) (x : Expr) (l : Label) : Type 0 where
  pub value : IsValueOf names x size l.value
  pub ignored : l.ignored ≡ dont_care kind x

abbrev pub IsArmOf : Names → CaseKind → Shape → List Expr → Arm → Type 0
IsArmOf names kind size labels a = AllZip (IsLabelOf names kind size) labels a.labels

abbrev pub OfArm : Names → CaseKind → Shape → List Expr → Option Arm → Type 0
OfArm names kind size labels None = Unit {0}
OfArm names kind size labels (Some a) = IsArmOf names kind size labels a

-- the arms of case items
abbrev pub IsItemArm : Names → CaseKind → Shape → Choice → Arm → Type 0
IsItemArm names kind size i a = IsArmOf names kind size (choice_labels i) a

abbrev pub OfArms : Names → CaseKind → Shape → List Choice → Option (List Arm) → Type 0
OfArms names kind size items None = Unit {0}
OfArms names kind size items (Some arms) = AllZip (IsItemArm names kind size) items arms

-- the plan answers what the node asks for
abbrev pub IsNodePlan : Names → Node → Plan → Type 0
IsNodePlan names node plan = IsAnswered (λ k request. IsPlanned names plan request) 0 node

-- the plan of an assign, or none
abbrev pub IsNetPlan : Names → NetNode → Option Transfer → Type 0
IsNetPlan names (net.Assign a) plan = OfTransfer names a plan
IsNetPlan names net.Design plan = Unit {0}
