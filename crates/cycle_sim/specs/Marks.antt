-- Cells whose numbers have to be computed: marks at their places in the order, and which cells read a driver.
use Rattle.std.specs.Prelude.{◌≡◌, ℕ, ◌+◌, ◌*◌, ◌/◌, ◌%◌, ◌^◌, ◌≤◌, ◌<◌, List, [], length, slice_get, slice_index, slice_index_or, slice_set, take, Some, ◌⊎◌}
use Rattle.std.specs.Int.{bit_at}
use Rattle.std.specs.List.{Contains}
use Rattle.netlist_core.specs.declared.cell.Cell.{Cell}
use Rattle.netlist_core.specs.declared.raw.RawNetlist.{RawNetlist}
use Rattle.netlist_core.specs.Runs.{plain, input_ports, output_port}
use Rattle.netlist_core.specs.Drivers.{times, times_at}
use Rattle.netlist_core.specs.Orders.{ports_of}
use Rattle.netlist_core.specs.Checked.{Plan}
use Rattle.netlist_core.specs.Settled.{number_at}
use Rattle.netlist_core.specs.Solutions.{FitPorts, driving}
use Rattle.cycle_sim.specs.declared.parts.Place.{Place}
use Rattle.cycle_sim.specs.Places.{place_of}
use Rattle.cycle_sim.specs.Simulated.{nets_of}

-- For proofs alone.

-- Marks: words of 64 bits, a bit for each place, which is 1 where the place is marked.

abbrev pub mark_at : List ℕ → ℕ → ℕ
mark_at marks k = bit_at (slice_index marks (k / 64)) (k % 64)

-- a net of the driver stands at an input port of the cell
abbrev pub ReadsDriver : RawNetlist → ℕ → ℕ → Type 0
ReadsDriver netlist c d = (n : ℕ) × (1 ≤ times_at n (input_ports (ports_of (slice_get netlist.cells c)))) × (1 ≤ times n (slice_index_or (driving netlist) d []))

-- For each driver the places of the cells that read it.
pub record AreReaders (plan : Plan) (readers : List (List ℕ)) : Type 0 where
  pub long : length readers ≡ length (driving plan.raw)
  pub listed : (d k : ℕ) → k < length plan.order → ReadsDriver plan.raw (slice_index plan.order k) d → Contains (slice_index_or readers d []) k
  pub only : (d k : ℕ) → Contains (slice_index_or readers d []) k → (k < length plan.order) × ReadsDriver plan.raw (slice_index plan.order k) d

-- A place is new in the list of each driver of a net that is among these, and nowhere else.
pub record AreAdded (Among : ℕ → Type 0) (places : List Place) (k : ℕ) (old new : List (List ℕ)) : Type 0 where
  pub long : length new ≡ length old
  pub listed : (n : ℕ) → Among n → Contains (slice_index_or new (place_of places n).driver []) k
  pub kept : (d j : ℕ) → Contains (slice_index_or old d []) j → Contains (slice_index_or new d []) j
  pub only : (d j : ℕ) → Contains (slice_index_or new d []) j → Contains (slice_index_or old d []) j ⊎ ((j ≡ k) × (n : ℕ) × Among n × ((place_of places n).driver ≡ d))

-- Numbers.

-- the number at a cell's Y is the one that comes of those at its input ports
abbrev pub IsComputed : RawNetlist → List ℕ → ℕ → Type 0
IsComputed netlist table c = (g : Cell) → slice_get netlist.cells c ≡ Some g → slice_index table (length netlist.inputs + length netlist.registers + c) ≡ number_at (plain (nets_of netlist table)) c g % 2 ^ length (output_port g.ports)

-- Each cell whose place isn't marked has its number.
pub record IsCurrent (plan : Plan) (table marks : List ℕ) : Type 0 where
  pub room : length plan.order ≤ 64 * length marks
  pub small : 64 * length marks < 2 ^ 64
  pub computed : (k : ℕ) → k < length plan.order → mark_at marks k ≡ 0 → IsComputed plan.raw table (slice_index plan.order k)

-- A driver has a number, and the cells that read it are marked where it had another one.
pub record IsPut (readers : List ℕ) (d v : ℕ) (table marks new_table new_marks : List ℕ) : Type 0 where
  pub written : new_table ≡ slice_set table d v
  pub long : length new_marks ≡ length marks
  pub marked : (new_table ≡ table) ⊎ ((k : ℕ) → Contains readers k → mark_at new_marks k ≡ 1)
  pub others : (k : ℕ) → ¬ Contains readers k → mark_at new_marks k ≡ mark_at marks k
  pub kept : (k : ℕ) → mark_at new_marks k ≡ 0 → mark_at marks k ≡ 0

-- Numbers that fit, where those that are to be computed are marked.
pub record AreHeld (plan : Plan) (table marks : List ℕ) : Type 0 where
  pub fit : FitPorts (driving plan.raw) table
  pub current : IsCurrent plan table marks

-- the numbers of inputs and registers
abbrev pub front : RawNetlist → List ℕ → List ℕ
front netlist table = take (length netlist.inputs + length netlist.registers) table
