-- What a call that builds an item does to the runs of a builder.
use Rattle.std.specs.Prelude.{◌≡◌, ◌⊎◌, ℕ, ◌<◌, ◌≤◌, List, [], ◌∷◌, ◌++◌, Some, map, slice_get, length}
use Rattle.std.specs.List.{Contains}
use Rattle.netlist_core.specs.declared.bit.Bit.{Bit}
use Rattle.netlist_core.specs.declared.bit.Bit.TheVariants.{Net}
use Rattle.netlist_core.specs.declared.port.Register.{Register}
use Rattle.netlist_core.specs.Numbers.{number}
use Rattle.netlist_core.specs.Runs.{Nets, values, q_bits}
use Rattle.netlist_core.specs.Drivers.{times_at}
use Rattle.netlist_core.specs.Checked.{AllPortsNets}
use Rattle.vlog_meaning.specs.Scopes.{Store}
use Rattle.net_builder.specs.declared.builder.Joint.{Joint}
use Rattle.net_builder.specs.Building.{Building, RunsIn, PortsBelow, signal, store}
use Rattle.net_builder.specs.Written.{IsJoined, IsStored}
use Rattle.flat_runs.specs.Meanings.{Meaning, Says, Taken, leaves, Writes, WritesOnce, Joins, stored_by}

-- Signals have nets of their own: each bit is a net that stands there, and each net is one bit of one signal.
pub record HasOwnNets (b : Building) : Type 0 where
  pub nets : AllPortsNets b.signals
  pub below : PortsBelow b.nets b.signals
  pub once : (n : ℕ) → times_at n b.signals ≤ 1

-- net n is bit i of signal k
abbrev pub IsBit : Building → ℕ → ℕ → ℕ → Type 0
IsBit b k i n = slice_get (signal b k) i ≡ Some (Net n)

-- bit i of signal k is written
abbrev pub IsWritten : Building → ℕ → ℕ → Type 0
IsWritten b k i = (n : ℕ) × IsBit b k i n × (IsJoined b n ⊎ IsStored b n)

-- the same values on the nets below a number
abbrev pub AgreeBelow : ℕ → Nets → Nets → Type 0
AgreeBelow limit a b = (n : ℕ) → n < limit → b n ≡ a n

-- Values of the nets below a number go on to a run of the builder.
pub record Extended (limit : ℕ) (nets : Nets) (b : Building) : Type 0 where
  pub wider : Nets
  pub agree : AgreeBelow limit nets wider
  pub runs : RunsIn b wider

-- Cells were added: each run of the old builder goes on to one of the new, and each run of the new is one of the old.
pub record Extends (old new : Building) : Type 0 where
  pub signals : new.signals ≡ old.signals
  pub joints : new.joints ≡ old.joints
  pub registers : new.registers ≡ old.registers
  pub nets : old.nets ≤ new.nets
  pub earlier : (nets : Nets) → RunsIn new nets → RunsIn old nets
  pub later : (nets : Nets) → RunsIn old nets → Extended old.nets nets new

-- in every run the bits have a value that goes by the signals
abbrev pub Means : Building → Building → List Bit → (Store → ℕ) → Type 0
Means old new bits value = (nets : Nets) → RunsIn new nets → number (values nets bits) ≡ value (store old nets)

-- the registers are those of the signals, and take the values
abbrev pub Take : Building → Nets → List Register → List Taken → Type 0
Take b nets [] [] = Unit {0}
Take b nets (r ∷ rs) (t ∷ ts) = (r.q ≡ signal b t.signal) × (number (values nets r.d) ≡ t.value) × Take b nets rs ts
Take b nets registers taken = ⊥

-- An item is built: the runs of the new builder are those of the old one in which what the item says holds, its registers
-- are added with what it leaves to them, and its bits are written. Each new joint is of a bit that the item joins, and
-- none stands twice where the item names each bit once.
pub record AddsItem (old new : Building) (m : Meaning) : Type 0 where
  pub signals : new.signals ≡ old.signals
  pub nets : old.nets ≤ new.nets
  pub earlier : (nets : Nets) → RunsIn new nets → RunsIn old nets
  pub says : (nets : Nets) → RunsIn new nets → Says m (store old nets)
  pub later : (nets : Nets) → RunsIn old nets → Says m (store old nets) → Extended old.nets nets new
  pub more : List Register
  pub registers : new.registers ≡ old.registers ++ more
  pub takes : (nets : Nets) → RunsIn new nets → Take old nets more (leaves m (store old nets))
  pub written : (k i : ℕ) → i < length (signal old k) → IsWritten new k i → IsWritten old k i ⊎ Writes m k i
  pub writes : (k i : ℕ) → i < length (signal old k) → IsWritten old k i ⊎ Writes m k i → IsWritten new k i
  pub stores : q_bits more ≡ map (signal old) (stored_by m)
  pub joints : List Joint
  pub joined : new.joints ≡ old.joints ++ joints
  pub joins : (j : Joint) → Contains joints j → (k : ℕ) × (i : ℕ) × IsBit old k i j.net × Joins m k i
  pub joins_once : WritesOnce m → (n : ℕ) (x y : Bit) → Contains joints (record { net = n; bit = x }) → Contains joints (record { net = n; bit = y }) → x ≡ y

-- items are built one after the other
abbrev pub AddsItems : List Meaning → Building → Building → Type 0
AddsItems [] old new = new ≡ old
AddsItems (m ∷ more) old new = (mid : Building) × AddsItem old mid m × AddsItems more mid new
