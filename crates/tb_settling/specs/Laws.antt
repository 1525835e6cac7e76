-- Laws of assignments and of nets that settle, over their definitions alone.
use Rattle.std.specs.Prelude.{◌≡◌, ℕ, true, List}
use Rattle.rand_pcg.specs.Lcg.{Lcg}
use Rattle.netlist_core.specs.Checked.{Plan, IsSound}
use Rattle.netlist_core.specs.Runs.{bits_at}
use Rattle.vlog_syntax.specs.declared.stmt.Assignment.{Assignment}
use Rattle.vlog_meaning.specs.Laws.{Agree}
use Rattle.vlog_meaning.specs.Scopes.{Names, Store, AreWithin}
use Rattle.vlog_meaning.specs.Senses.{either, sense, IsWhole}
use Rattle.vlog_effects.specs.LeftSides.{parts_of}
use Rattle.signal_masks.specs.Parts.{AreFit, indices_read}
use Rattle.tb_machine.specs.Phases.{Setting, Settles}
use Rattle.tb_machine.specs.Worlds.{some_gives}
use Rattle.tb_assigns.specs.Checks.{can_assign}
use Rattle.tb_assigns.specs.Updates.{updates}
use Rattle.tb_evaluator.specs.Meanings.{HasSignals}
use Rattle.tb_nets.specs.declared.nets.Nets.{Nets}
use Rattle.tb_nets.specs.Lefts.{left_writes}
use Rattle.tb_settling.specs.Settling.{CanSettle, IsNetsOf}
use Rattle.tb_settling.specs.Nodes.{PortsFit, IsStore}

-- the updates of an assignment depend on the bits that its right side and the indices of its left side read, and on no other
abbrev pub UpdatesRestOnReads : Type 0
UpdatesRestOnReads = (names : Names) (phase : ℕ) (a : Assignment) (g : Lcg) → can_assign names a ≡ true → (s t : Store) → AreWithin names s → AreWithin names t → Agree (either (sense names a.value).reads (indices_read names (parts_of a.left))) s t → updates names phase a s g ≡ updates names phase a t g

-- they give values to bits that the left side can write alone
abbrev pub UpdatesStayInside : Type 0
UpdatesStayInside = (names : Names) (phase : ℕ) (a : Assignment) (g : Lcg) (s : Store) (n i : ℕ) → some_gives (updates names phase a s g).0 n i ≡ true → left_writes names (parts_of a.left) n i ≡ true

-- what is asked of an assignment among nets holds where both sides have shapes and the left one names signals
abbrev pub SidesFit : Type 0
SidesFit = (names : Names) (a : Assignment) → can_assign names a ≡ true → IsWhole names a.value × AreFit names (parts_of a.left)

-- Nets that settle in a phase come to one store, where its values are those of its signals, and to one value at each D.
abbrev pub NetsSettleOnce : Type 0
NetsSettleOnce = (g : Setting) (phase : ℕ) (names : Names) (inputs outputs : List ℕ) (nets : Nets) (plan : Plan) → IsSound plan → CanSettle names g.widths inputs outputs nets → HasSignals names g.widths → PortsFit g.widths inputs (bits_at plan.raw.inputs) → PortsFit g.widths outputs (bits_at plan.raw.outputs) → IsNetsOf g names inputs outputs nets.nodes plan.raw → (registers store a b c d : List ℕ) → IsStore names g.widths a → IsStore names g.widths c → Settles g phase registers store a b → Settles g phase registers store c d → (a ≡ c) × (b ≡ d)
