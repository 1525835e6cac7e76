-- Laws of assignments, over their definitions alone.
use Rattle.std.specs.Prelude.{◌≡◌, ◌<◌, ◌≤◌, ℕ, ◌+◌, ◌^◌, pos, ◌+ℤ◌, List, [], ◌∷◌, Some, None}
use Rattle.rand_pcg.specs.Lcg.{Lcg}
use Rattle.vlog_syntax.specs.declared.stmt.Assignment.{Assignment}
use Rattle.vlog_meaning.specs.Scopes.{Names, Store}
use Rattle.vlog_meaning.specs.Senses.{IsWhole}
use Rattle.vlog_effects.specs.LeftSides.{Part, Vector, vector_of, part_vector, parts_of, bit_at}
use Rattle.elab_proc.specs.Refusals.{same_form}
use Rattle.tb_machine.specs.declared.update.Update.{Update}
use Rattle.tb_assigns.specs.Updates.{Window, window_update, updates, CanAssign}

-- an update of bits that a declared signal has, with a value of as many bits
pub record IsOfSignal (names : Names) (u : Update) : Type 0 where
  pub name : List ℕ
  pub vector : Vector
  pub declared : vector_of (names name) ≡ Some vector
  pub signal : u.signal ≡ vector.number
  pub some : 1 ≤ u.width
  pub within : u.low + u.width ≤ vector.width
  pub value : u.value < 2 ^ u.width

abbrev pub AreOfSignals : Names → List Update → Type 0
AreOfSignals names [] = Unit {0}
AreOfSignals names (u ∷ more) = IsOfSignal names u × AreOfSignals names more

abbrev pub UpdatesFit : Type 0
UpdatesFit = (names : Names) (phase : ℕ) (a : Assignment) (store : Store) (g : Lcg) → AreOfSignals names (updates names phase a store g).0

-- bits that are all out of range are not written
abbrev pub OutsideStays : Type 0
OutsideStays = (w : Window) (v : ℕ) → ((i : ℕ) → i < w.size → bit_at w.vector (w.base +ℤ pos i) ≡ None) → window_update w v ≡ []

-- each part names a signal
abbrev pub NameSignals : Names → List Part → Type 0
NameSignals names [] = Unit {0}
NameSignals names (p ∷ more) = ((v : Vector) × (part_vector names p ≡ Some v)) × NameSignals names more

-- an assignment can be carried out whose sides have shapes, and whose left side names signals
abbrev pub WholeSidesSuffice : Type 0
WholeSidesSuffice = (names : Names) (a : Assignment) → IsWhole names (same_form a.left) → NameSignals names (parts_of a.left) → IsWhole names a.value → CanAssign names a
