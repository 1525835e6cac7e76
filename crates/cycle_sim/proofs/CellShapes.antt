-- The ports of cells of their kind's shape.
use Rattle.cycle_sim.proofs.Common.{◌+◌, ◌≤◌, List, [], ◌∷◌, length, map, arith, length-map, Bit, Cell, input_ports, shape_of, HasShape, AllWide}
use Rattle.cell_meaning.proofs.PortWords.{count-range, widths-count}

-- they are one to three inputs, and Y
shape-count : (cell : Cell) → HasShape cell → (2 ≤ length cell.ports) × (length cell.ports ≤ 4)
shape-count cell has =
    let count = widths-count (shape_of cell.kind) (map length cell.ports) has in
    let range = count-range (shape_of cell.kind) in
    let ports = length-map cell.ports (λ (bits : List Bit). length bits) in
    (omega (arith, count, range.0, ports), omega (arith, count, range.1, ports))

inputs-count : (ports : List (List Bit)) → length ports ≤ 1 + length (input_ports ports)
inputs-count [] = omega arith
inputs-count (y ∷ []) = omega arith
inputs-count (a ∷ b ∷ more) = (let rest = inputs-count (b ∷ more) in omega (arith, rest))

inputs-fewer : (ports : List (List Bit)) → 1 ≤ length ports → 1 + length (input_ports ports) ≤ length ports
inputs-fewer [] some = absurd (omega (arith, some))
inputs-fewer (y ∷ []) some = omega arith
inputs-fewer (a ∷ b ∷ more) some = (let rest = inputs-fewer (b ∷ more) (omega arith) in omega (arith, rest))

pub input-count : (cell : Cell) → HasShape cell → (1 ≤ length (input_ports cell.ports)) × (length (input_ports cell.ports) ≤ 3)
input-count cell has =
    let count = shape-count cell has in
    let few = inputs-count cell.ports in
    let fewer = inputs-fewer cell.ports (omega (arith, count.0)) in
    (omega (arith, count.0, few), omega (arith, count.1, fewer))

pub inputs-wide : (ports : List (List Bit)) → AllWide ports → AllWide (input_ports ports)
inputs-wide [] wide = tt
inputs-wide (y ∷ []) wide = tt
inputs-wide (a ∷ b ∷ more) wide = (wide.0, wide.1, inputs-wide (b ∷ more) wide.2)
