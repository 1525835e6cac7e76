-- Which netlists can be run, and why others are refused.
use Rattle.std.specs.Prelude.{◌≡◌, ℕ, ◌+◌, ◌≤◌, ◌<◌, List, [], ◌∷◌, length}
use Rattle.mcy_base.specs.declared.kind.Kind.TheVariants.{Cells, NetBits}
use Rattle.netlist_core.specs.declared.bit.Bit.{Bit}
use Rattle.netlist_core.specs.declared.bit.Bit.TheVariants.{Fixed, Net}
use Rattle.netlist_core.specs.declared.cell.Cell.{Cell}
use Rattle.netlist_core.specs.declared.port.Register.{Register}
use Rattle.netlist_core.specs.declared.raw.RawNetlist.{RawNetlist}
use Rattle.netlist_core.specs.declared.netlist.NetError.{NetError}
use Rattle.netlist_core.specs.declared.netlist.NetError.TheVariants.{TooMany, BadShape, TwoDrivers, Undriven, Loop, Memory}
use Rattle.std.specs.Prelude.{slice_get, Option, Some, None}
use Rattle.netlist_core.specs.Runs.{bits_at, q_bits}
use Rattle.netlist_core.specs.Shapes.{HasShape}
use Rattle.netlist_core.specs.Drivers.{y_bits, drivers, HasTwoDrivers, IsUndriven}
use Rattle.netlist_core.specs.Orders.{Reads, IsOnLoop, IsOrder}
pub use Rattle.net_order.specs.Orders.{Never, IsFirst}

-- What is asked of the parts that are checked.

-- each port has 1 to 128 bits
abbrev pub AllWide : List (List Bit) → Type 0
AllWide [] = Unit {0}
AllWide (bits ∷ more) = (1 ≤ length bits) × (length bits ≤ 128) × AllWide more

-- each bit is a net
abbrev pub AllNets : List Bit → Type 0
AllNets [] = Unit {0}
AllNets (Fixed b ∷ more) = ⊥
AllNets (Net n ∷ more) = AllNets more

abbrev pub AllPortsNets : List (List Bit) → Type 0
AllPortsNets [] = Unit {0}
AllPortsNets (bits ∷ more) = AllNets bits × AllPortsNets more

-- D and Q of each register have the width of its start value
abbrev pub AllRegistersFit : List Register → Type 0
AllRegistersFit [] = Unit {0}
AllRegistersFit (r ∷ more) = (length r.d ≡ r.start.width) × (length r.q ≡ r.start.width) × AllRegistersFit more

-- the ports of each cell have 1 to 128 bits
abbrev pub AllCellsWide : List Cell → Type 0
AllCellsWide [] = Unit {0}
AllCellsWide (cell ∷ more) = AllWide cell.ports × AllCellsWide more

-- Widths are in range, and drivers are nets.
pub record IsFormed (netlist : RawNetlist) : Type 0 where
  pub inputs : AllWide (bits_at netlist.inputs)
  pub outputs : AllWide (bits_at netlist.outputs)
  pub registers : AllRegistersFit netlist.registers
  pub cells : AllCellsWide netlist.cells
  pub entered : AllPortsNets (bits_at netlist.inputs)
  pub stored : AllPortsNets (q_bits netlist.registers)
  pub computed : AllPortsNets (y_bits netlist.cells)

-- Refusals, in order.

-- the bits at ports together
abbrev pub all_bits : List (List Bit) → ℕ
all_bits [] = 0
all_bits (bits ∷ more) = length bits + all_bits more

-- the bits of inputs, outputs, registers and cells' Y together
abbrev pub net_bits : RawNetlist → ℕ
net_bits netlist = all_bits (bits_at netlist.inputs) + all_bits (bits_at netlist.outputs) + all_bits (q_bits netlist.registers) + all_bits (y_bits netlist.cells)

-- the bits of inputs and registers, which are free in one cycle
abbrev pub free_bits : RawNetlist → ℕ
free_bits netlist = all_bits (bits_at netlist.inputs) + all_bits (q_bits netlist.registers)

abbrev pub max_cells : ℕ
max_cells = 65536

abbrev pub max_net_bits : ℕ
max_net_bits = 1048577

-- a cell whose port widths aren't its kind's
abbrev pub HasBadShape : Option Cell → Type 0
HasBadShape None = ⊥
HasBadShape (Some cell) = ¬ HasShape cell

abbrev pub IsMisshapen : RawNetlist → ℕ → Type 0
IsMisshapen netlist c = HasBadShape (slice_get netlist.cells c)

-- the netlist passes all tests that come before the one on shapes, drivers, readers, loops
pub record IsSmall (netlist : RawNetlist) : Type 0 where
  pub cells : length netlist.cells ≤ max_cells
  pub bits : net_bits netlist ≤ max_net_bits

pub record IsShaped (netlist : RawNetlist) : Type 0 where
  pub small : IsSmall netlist
  pub shapes : (c : ℕ) (cell : Cell) → slice_get netlist.cells c ≡ Some cell → HasShape cell

pub record IsDriven (netlist : RawNetlist) : Type 0 where
  pub shaped : IsShaped netlist
  pub single : Never (HasTwoDrivers netlist)

pub record IsConnected (netlist : RawNetlist) : Type 0 where
  pub driven : IsDriven netlist
  pub reads : Never (IsUndriven netlist)

-- the netlist is refused for this
abbrev pub IsRefused : RawNetlist → NetError → Type 0
IsRefused netlist (TooMany Cells) = max_cells < length netlist.cells
IsRefused netlist (TooMany NetBits) = (length netlist.cells ≤ max_cells) × (max_net_bits < net_bits netlist)
IsRefused netlist (TooMany other) = ⊥
IsRefused netlist (BadShape c) = IsSmall netlist × IsFirst (IsMisshapen netlist) c
IsRefused netlist (TwoDrivers n) = IsShaped netlist × IsFirst (HasTwoDrivers netlist) n
IsRefused netlist (Undriven n) = IsDriven netlist × IsFirst (IsUndriven netlist) n
IsRefused netlist (Loop c) = IsConnected netlist × IsFirst (IsOnLoop (Reads netlist)) c
IsRefused netlist Memory = Unit {0}

-- What a netlist that passes has.

-- the parts, the order of the cells, and the number past the greatest net that is driven
pub record Plan : Type 0 where
  pub raw : RawNetlist
  pub order : List ℕ
  pub nets : ℕ

pub record IsSound (plan : Plan) : Type 0 where
  pub formed : IsFormed plan.raw
  pub connected : IsConnected plan.raw
  pub loops : Never (IsOnLoop (Reads plan.raw))
  pub order : IsOrder (length plan.raw.cells) (Reads plan.raw) plan.order
  pub below : (n : ℕ) → 1 ≤ drivers plan.raw n → n < plan.nets
  pub last : (n : ℕ) → n + 1 ≡ plan.nets → 1 ≤ drivers plan.raw n
