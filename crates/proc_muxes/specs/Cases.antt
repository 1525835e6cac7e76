-- The arms of a case while it is built (IEEE 1364-2005, 9.5): each has its test and its body, and its muxes wait for the arms after it.
use Rattle.std.specs.Prelude.{◌≡◌, false, List, [], ◌∷◌, ◌++◌}
use Rattle.netlist_core.specs.declared.bit.Bit.{Bit}
use Rattle.vlog_syntax.specs.declared.stmt.CaseItem.{CaseItem, out-CaseItem}
use Rattle.vlog_meaning.specs.declared.shapes.Shape.{Shape}
use Rattle.vlog_meaning.specs.Scopes.{Names}
use Rattle.vlog_meaning.specs.Senses.{is_empty}
use Rattle.vlog_effects.specs.Steps.{Selection, Item, steps_of}
use Rattle.net_builder.specs.Building.{Building}
use Rattle.elab_proc.specs.Refusals.{labels_in}
use Rattle.proc_muxes.specs.declared.open_arms.OpenArm.{OpenArm}
use Rattle.proc_muxes.specs.Builds.{Work, BuildsMatch}
use Rattle.proc_muxes.specs.Clear.{AreClearLabels, IsReady}
use Rattle.proc_muxes.specs.Working.{Built, all_have, given_back}

-- For proofs alone.

-- what the code of arms asks of each item with labels
abbrev pub AreReadyItems : Names → Shape → List CaseItem → Work → Type 0
AreReadyItems names size [] a = Unit {0}
AreReadyItems names size (i ∷ more) a =
    (is_empty (labels_in i) ≡ false → AreClearLabels names size (labels_in i) × IsReady names (steps_of (out-CaseItem i).body names) a) ×
    AreReadyItems names size more a

-- An arm is open: its labels are matched, its body is built, and each variable has got back what it had before.
pub record Opens (c : Selection) (selector : List Bit) (i : Item) (arm : OpenArm) (a b : Work) : Type 0 where
  pub mid : Building
  pub left : Work
  pub matches : BuildsMatch c selector i.labels a.building mid arm.test
  pub body : Built (i.body c.names) (record a { building = mid }) left arm.changes
  pub first : arm.first.items ≡ all_have left arm.changes
  pub back : b ≡ given_back arm.changes left
  pub place : arm.at ≡ i.place

-- items were opened one after the other; the arm of the last one stands first
abbrev pub Opened : Selection → List Bit → List Item → List OpenArm → Work → Work → Type 0
Opened c selector items [] a b = (items ≡ []) × (b ≡ a)
Opened c selector items (arm ∷ more) a b =
    (before : List Item) × (i : Item) × (m : Work) × (items ≡ before ++ i ∷ []) × Opened c selector before more a m × Opens c selector i arm m b
