-- The ports of a sound netlist's cells.
use Rattle.step_trials.proofs.Common.{ℕ, zero, suc, ◌<◌, ◌≤◌, List, [], ◌∷◌, length, map, get_or, arith, length-map, Bit, Cell, Port, Register, bits_at, d_bits, AllWide, HasInputs}
use Rattle.netlist_core.specs.Shapes.{shape_of, HasShape}
use Rattle.cell_meaning.proofs.PortWords.{count-range, widths-count}

-- they are one to three inputs, and Y
pub shape-inputs : (cell : Cell) → HasShape cell → HasInputs cell.ports
shape-inputs cell has =
    let count = widths-count (shape_of cell.kind) (map length cell.ports) has in
    let range = count-range (shape_of cell.kind) in
    let ports = length-map cell.ports (λ (bits : List Bit). length bits) in
    (omega (arith, count, range.0, ports), omega (arith, count, range.1, ports))

pub wide-bits : (ports : List Port) (i : ℕ) (d : Port) → AllWide (bits_at ports) → i < length ports → (1 ≤ length (get_or ports i d).bits) × (length (get_or ports i d).bits ≤ 128)
wide-bits [] i d all h = absurd (omega (arith, h))
wide-bits (port ∷ more) zero d all h = (all.0, all.1)
wide-bits (port ∷ more) (suc i) d all h = wide-bits more i d all.2 (omega (arith, h))

pub wide-next : (registers : List Register) (i : ℕ) (d : Register) → AllWide (d_bits registers) → i < length registers → (1 ≤ length (get_or registers i d).d) × (length (get_or registers i d).d ≤ 128)
wide-next [] i d all h = absurd (omega (arith, h))
wide-next (r ∷ more) zero d all h = (all.0, all.1)
wide-next (r ∷ more) (suc i) d all h = wide-next more i d all.2 (omega (arith, h))
