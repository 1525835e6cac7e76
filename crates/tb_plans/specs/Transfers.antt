-- Plans of assignments: the value is a formula, or a word of `$random` alone, and goes to bits of one signal. A plan is one of an
-- assignment where it brings the same updates in each phase.
use Rattle.std.specs.Prelude.{◌≡◌, ◌<◌, ◌≤◌, ◌^◌, ℕ, List, Option, Some, None}
use Rattle.rand_pcg.specs.Lcg.{Lcg}
use Rattle.rand_pcg.specs.Pcg.{pcg32}
use Rattle.vlog_syntax.specs.declared.stmt.Assignment.{Assignment}
use Rattle.vlog_meaning.specs.Integers.{integer}
use Rattle.vlog_meaning.specs.Operators.{IsSized}
use Rattle.vlog_meaning.specs.Scopes.{Names, Store}
use Rattle.vlog_meaning.specs.Senses.{taken}
use Rattle.tb_machine.specs.declared.update.Update.{Update}
use Rattle.tb_values.specs.Draws.{random_shape}
use Rattle.tb_assigns.specs.Pieces.{vector_is, clip_update}
use Rattle.tb_assigns.specs.Updates.{some_bits, window_update, updates}
use Rattle.tb_formulas.specs.Formulas.{formula_value, FitsIn}
use Rattle.tb_formulas.specs.Signals.{HasSignals}
use Rattle.tb_plans.specs.declared.target.Target.{Target}
use Rattle.tb_plans.specs.declared.target.Target.TheVariants.{Filled, Fixed, Indexed}
use Rattle.tb_plans.specs.declared.transfer.Transfer.{Transfer}
use Rattle.tb_plans.specs.declared.transfer.Draw.{Draw}
use Rattle.tb_plans.specs.declared.transfer.Writing.{Writing}
use Rattle.tb_plans.specs.declared.transfer.Writing.TheVariants as w

-- the updates of a target with a value; an index is an integer by its shape
abbrev pub target_updates : Target → Store → ℕ → List Update
target_updates (Filled signal low width) store v = some_bits signal low width v
target_updates (Fixed clip) store v = clip_update clip v
target_updates (Indexed vector size shape index) store v = window_update (record { vector = vector_is vector; base = integer shape (formula_value index store); size = size }) v

abbrev pub transfer_updates : Transfer → Store → List Update
transfer_updates t store = target_updates t.target store (formula_value t.value store)

-- the next word of the generator, at the width and sign of the assignment
abbrev pub draw_updates : Draw → Store → Lcg → List Update × Lcg
draw_updates d store g = (target_updates d.target store (taken random_shape d.context (pcg32 g).0), (pcg32 g).1)

-- formulas over signals of these widths

-- a target takes values of so many bits
abbrev pub TargetFits : List ℕ → ℕ → Target → Type 0
TargetFits widths bits (Filled signal low width) = (1 ≤ width) × (bits ≤ width)
TargetFits widths bits (Fixed clip) = Unit {0}
TargetFits widths bits (Indexed vector size shape index) = IsSized shape × FitsIn widths index shape.width

pub record TransferFits (widths : List ℕ) (t : Transfer) : Type 0 where
  pub bits : ℕ
  pub value : FitsIn widths t.value bits
  pub target : TargetFits widths bits t.target

pub record DrawFits (widths : List ℕ) (d : Draw) : Type 0 where
  pub wide : 32 ≤ d.context.width
  pub narrow : d.context.width ≤ 128
  pub target : TargetFits widths d.context.width d.target

-- the plan of an assignment

pub record IsTransferOf (names : Names) (a : Assignment) (t : Transfer) : Type 0 where
  pub means : (phase : ℕ) (store : Store) (g : Lcg) → updates names phase a store g ≡ (transfer_updates t store, g)
  pub fits : (widths : List ℕ) → HasSignals names widths → TransferFits widths t

pub record IsDrawOf (names : Names) (a : Assignment) (d : Draw) : Type 0 where
  pub means : (phase : ℕ) (store : Store) (g : Lcg) → updates names phase a store g ≡ draw_updates d store g
  pub fits : (widths : List ℕ) → HasSignals names widths → DrawFits widths d

abbrev pub IsWritingOf : Names → Assignment → Writing → Type 0
IsWritingOf names a (w.Transfer t) = IsTransferOf names a t
IsWritingOf names a (w.Draw d) = IsDrawOf names a d

-- there is none, or it is one of the assignment
abbrev pub OfWriting : Names → Assignment → Option Writing → Type 0
OfWriting names a None = Unit {0}
OfWriting names a (Some p) = IsWritingOf names a p

-- For proofs alone.

-- it takes this value
pub record Takes (widths : List ℕ) (t : Target) (v : ℕ) : Type 0 where
  pub bits : ℕ
  pub value : v < 2 ^ bits
  pub target : TargetFits widths bits t

abbrev pub OfTransfer : Names → Assignment → Option Transfer → Type 0
OfTransfer names a None = Unit {0}
OfTransfer names a (Some t) = IsTransferOf names a t
