-- A netlist of few parts has few net bits: at most 128 at each port.
use Rattle.std.proofs.Common.{◌+◌, ◌*◌, ◌≤◌, List, [], ◌∷◌, length, arith}
use Rattle.std.proofs.lemmas.List.{length-map}
use Rattle.netlist_core.specs.declared.bit.Bit.{Bit}
use Rattle.netlist_core.specs.declared.cell.Cell.{Cell}
use Rattle.netlist_core.specs.declared.port.Port as port
use Rattle.netlist_core.specs.declared.port.Register.{Register}
use Rattle.netlist_core.specs.Runs.{bits_at, q_bits, output_port}
use Rattle.netlist_core.specs.Drivers.{y_bits}
use Rattle.netlist_core.specs.Checked.{all_bits, net_bits, AllWide, AllCellsWide, AllRegistersFit, Plan, IsSound}

ports-few : (ports : List (List Bit)) → AllWide ports → all_bits ports ≤ length ports * 128
ports-few [] all = omega arith
ports-few (bits ∷ more) all = omega (arith, all.1, ports-few more all.2)

registers-few : (registers : List Register) → AllRegistersFit registers → all_bits (q_bits registers) ≤ length registers * 128
registers-few [] all = omega arith
registers-few (r ∷ more) all = let narrow : r.start.width ≤ 128 = r.start.narrow in omega (arith, narrow, all.1, registers-few more all.2)

output-few : (ports : List (List Bit)) → AllWide ports → length (output_port ports) ≤ 128
output-few [] all = omega arith
output-few (y ∷ []) all = all.1
output-few (a ∷ b ∷ more) all = output-few (b ∷ more) all.2

cells-few : (cells : List Cell) → AllCellsWide cells → all_bits (y_bits cells) ≤ length cells * 128
cells-few [] all = omega arith
cells-few (cell ∷ more) all = omega (arith, output-few cell.ports all.0, cells-few more all.1)

pub few-bits : (plan : Plan) → IsSound plan → length plan.raw.inputs + length plan.raw.outputs + length plan.raw.registers + length plan.raw.cells ≤ 8000 → net_bits plan.raw ≤ 1048576
few-bits plan sound few =
    let bits_of : port.Port → List Bit = λ p. p.bits in
    omega (
      arith,
      ports-few (bits_at plan.raw.inputs) sound.formed.inputs,
      ports-few (bits_at plan.raw.outputs) sound.formed.outputs,
      length-map plan.raw.inputs bits_of,
      length-map plan.raw.outputs bits_of,
      registers-few plan.raw.registers sound.formed.registers,
      cells-few plan.raw.cells sound.formed.cells,
      few,
    )
