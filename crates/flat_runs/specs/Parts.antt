-- How items are built from cells, joints and registers, and what stands of a builder from item to item.
use Rattle.std.specs.Prelude.{◌≡◌, ℕ, zero, suc, ◌+◌, ◌^◌, ◌<◌, ◌≤◌, List, [], ◌∷◌, ◌++◌, Option, None, Some, length}
use Rattle.std.specs.List.{Contains}
use Rattle.netlist_core.specs.declared.bit.Bit.{Bit}
use Rattle.netlist_core.specs.declared.cell.Cell.{Cell}
use Rattle.netlist_core.specs.declared.port.Register.{Register}
use Rattle.netlist_core.specs.Runs.{output_port}
use Rattle.netlist_core.specs.Shapes.{HasShape}
use Rattle.netlist_core.specs.Drivers.{times_at, y_bits}
use Rattle.netlist_core.specs.Checked.{AllWide, AllNets}
use Rattle.vlog_meaning.specs.Scopes.{Store}
use Rattle.net_builder.specs.declared.builder.Joint.{Joint}
use Rattle.net_builder.specs.Building.{Building, AllBelow, PortsBelow, signal}
use Rattle.flat_runs.specs.Meanings.{Place, SameBut}
use Rattle.flat_runs.specs.Adding.{IsBit, Means}

abbrev pub with_joints : Building → List Joint → Building
with_joints b joints = record b { joints = b.joints ++ joints }

abbrev pub with_registers : Building → List Register → Building
with_registers b registers = record b { registers = b.registers ++ registers }

-- What stands of a builder: cells, joints and registers speak of nets below `nets`, and each of these is a bit of a signal or of
-- a cell's Y, just one.

abbrev pub AreCellsBelow : ℕ → List Cell → Type 0
AreCellsBelow limit [] = Unit {0}
AreCellsBelow limit (cell ∷ more) = PortsBelow limit cell.ports × AreCellsBelow limit more

abbrev pub AreJointsBelow : ℕ → List Joint → Type 0
AreJointsBelow limit [] = Unit {0}
AreJointsBelow limit (j ∷ more) = (j.net < limit) × AllBelow limit (j.bit ∷ []) × AreJointsBelow limit more

-- D of each register is below, and as long as Q
abbrev pub AreRegistersBelow : ℕ → List Register → Type 0
AreRegistersBelow limit [] = Unit {0}
AreRegistersBelow limit (r ∷ more) = AllBelow limit r.d × (length r.d ≡ length r.q) × AreRegistersBelow limit more

-- each cell has the ports of its kind, of 1 to 128 bits, and drives nets
abbrev pub AreFormed : List Cell → Type 0
AreFormed [] = Unit {0}
AreFormed (cell ∷ more) = HasShape cell × AllWide cell.ports × AllNets (output_port cell.ports) × AreFormed more

-- how many bits of signals and of cells' Y are this net
abbrev pub owners : Building → ℕ → ℕ
owners b n = times_at n b.signals + times_at n (y_bits b.cells)

pub record StandsBelow (b : Building) : Type 0 where
  pub cells : AreCellsBelow b.nets b.cells
  pub joints : AreJointsBelow b.nets b.joints
  pub registers : AreRegistersBelow b.nets b.registers
  pub formed : AreFormed b.cells
  pub owned : (n : ℕ) → n < b.nets → owners b n ≡ 1
  pub outside : (n : ℕ) → b.nets ≤ n → owners b n ≡ 0

-- Left sides.

-- Each place is joined to the bit of the value, from the lowest on. Bits above the left side are dropped.
abbrev pub AreJoints : Building → List (Option Place) → List Bit → List Joint → Type 0
AreJoints b [] bits [] = Unit {0}
AreJoints b (None ∷ left) (bit ∷ bits) joints = AreJoints b left bits joints
AreJoints b (Some p ∷ left) (bit ∷ bits) (j ∷ joints) = IsBit b p.signal p.bit j.net × (j.bit ≡ bit) × AreJoints b left bits joints
AreJoints b left bits joints = ⊥

-- the places of a signal, so many, from bit `i` on
abbrev pub places_from : ℕ → ℕ → ℕ → List (Option Place)
places_from k i zero = []
places_from k i (suc n) = Some (record { signal = k; bit = i }) ∷ places_from k (suc i) n

-- all places of a signal
abbrev pub whole : Building → ℕ → List (Option Place)
whole b k = places_from k 0 (length (signal b k))

-- Variables of a process.

-- the bits of each variable have what the process leaves to it
abbrev pub AllMean : Building → Building → List ℕ → List (List Bit) → (Store → Store) → Type 0
AllMean old new [] [] effect = Unit {0}
AllMean old new (k ∷ ks) (bits ∷ more) effect = Means old new bits (λ s. effect s k) × AllMean old new ks more effect
AllMean old new variables bits effect = ⊥

-- each variable is joined to its bits, one after the other
abbrev pub AllJoin : Building → List ℕ → List (List Bit) → List Joint → Type 0
AllJoin b [] bits joints = joints ≡ []
AllJoin b (k ∷ ks) [] joints = ⊥
AllJoin b (k ∷ ks) (bits ∷ more) joints = (first rest : List Joint) × (joints ≡ first ++ rest) × AreJoints b (whole b k) bits first × AllJoin b ks more rest

-- What the process leaves fits, and goes by the values of the other signals alone: there is no latch, and no variable of
-- its own is read before it is assigned.
pub record IsSettled (b : Building) (variables : List ℕ) (effect : Store → Store) : Type 0 where
  pub fits : (s : Store) (k : ℕ) → Contains variables k → effect s k < 2 ^ length (signal b k)
  pub by_others : (s t : Store) → SameBut variables s t → (k : ℕ) → Contains variables k → effect s k ≡ effect t k

-- the registers are those of the variables, and take these bits
abbrev pub AreStored : Building → List ℕ → List (List Bit) → List Register → Type 0
AreStored b [] bits [] = Unit {0}
AreStored b (k ∷ ks) (bits ∷ more) (r ∷ rs) = (r.q ≡ signal b k) × (r.d ≡ bits) × AreStored b ks more rs
AreStored b variables bits registers = ⊥
