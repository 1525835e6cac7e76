-- Cells as they are computed.
use Rattle.std.specs.Prelude.{◌≡◌, ℕ, ◌≤◌, List, [], ◌∷◌, ◌++◌, map, length, Option, Some, None}
use Rattle.netlist_core.specs.declared.bit.Bit.{Bit}
use Rattle.netlist_core.specs.declared.cell.Cell.{Cell}
use Rattle.netlist_core.specs.Runs.{input_ports, output_port}
use Rattle.netlist_core.specs.Cells.{cell_value}
use Rattle.netlist_core.specs.Shapes.{shape_of, HasWidths}
use Rattle.cycle_sim.specs.declared.parts.Wires.{Wires}
use Rattle.cycle_sim.specs.declared.parts.Gate.{Gate}
use Rattle.cycle_sim.specs.Parts.{AllWired, AllReadable, wires_bits}

-- For proofs alone.

-- The gate has the cell's kind, the width of its Y, and the wires of its input ports.
pub record IsGate (drivers : List (List Bit)) (gate : Gate) (cell : Cell) : Type 0 where
  pub kind : gate.kind ≡ cell.kind
  pub is_signed : gate.is_signed ≡ cell.is_signed
  pub width : gate.width ≡ length (output_port cell.ports)
  pub ports : AllWired drivers gate.ports (input_ports cell.ports)

abbrev pub IsGateOf : List (List Bit) → Gate → Option Cell → Type 0
IsGateOf drivers gate None = ⊥
IsGateOf drivers gate (Some cell) = IsGate drivers gate cell

abbrev pub AllGates : List (List Bit) → List Gate → List Cell → Type 0
AllGates drivers [] [] = Unit {0}
AllGates drivers (gate ∷ more) (cell ∷ cells) = IsGate drivers gate cell × AllGates drivers more cells
AllGates drivers gates cells = ⊥

-- A gate with the ports of its kind, which can be read from a table.
pub record IsComputable (table : List ℕ) (gate : Gate) : Type 0 where
  pub some : 1 ≤ gate.width
  pub narrow : gate.width ≤ 128
  pub ports : 1 ≤ length gate.ports
  pub few : length gate.ports ≤ 3
  pub shape : HasWidths (shape_of gate.kind) (map (λ (wires : Wires). wires.width) gate.ports ++ gate.width ∷ [])
  pub readable : AllReadable table gate.ports

-- the number at its Y, from a table
abbrev pub gate_number : List ℕ → Gate → ℕ
gate_number table gate = cell_value gate.kind gate.is_signed gate.width (map (wires_bits table) gate.ports)
