use Rattle.mutation_sites.proofs.Common.{◌≡◌, ap, ◌∙◌, arith, RawNetlist, cells_count, registers_count}
use Rattle.mutation_sites.proofs.Totals.{length-sites, cells-total, registers-total}
use Rattle.mutation_sites.proofs.count.site_count.Goals as goal

pub cells_count-cells-requires : goal.cells_count-cells-requires
cells_count-cells-requires c =
    rw c.as_slice.ensures (rw c.raw-raw.ensures.value (let few = cells-total c.args.modes c.args.netlist.now c.raw-raw.ensures.sound in omega (arith, few)))

pub registers_count-registers-requires : goal.registers_count-registers-requires
registers_count-registers-requires c =
    rw c.as_slice-2.ensures (rw c.raw-raw.ensures.value (let few = registers-total c.args.modes c.args.netlist.now c.raw-raw.ensures.sound in omega (arith, few)))

pub overflow_add-result : goal.overflow_add-result
overflow_add-result c =
    let cells : c.cells_count-cells.result ≡ cells_count c.args.modes c.args.netlist.now.raw.cells = c.cells_count-cells.ensures ∙ ap (cells_count c.args.modes) (c.as_slice.ensures ∙ ap (λ (r : RawNetlist). r.cells) c.raw-raw.ensures.value) in
    let registers : c.registers_count-registers.result ≡ registers_count c.args.modes c.args.netlist.now.raw.registers = c.registers_count-registers.ensures ∙ ap (registers_count c.args.modes) (c.as_slice-2.ensures ∙ ap (λ (r : RawNetlist). r.registers) c.raw-raw.ensures.value) in
    omega (arith, cells, registers, cells-total c.args.modes c.args.netlist.now c.raw-raw.ensures.sound, registers-total c.args.modes c.args.netlist.now c.raw-raw.ensures.sound)

pub returns : goal.returns
returns c =
    let cells : c.cells_count-cells.result ≡ cells_count c.args.modes c.args.netlist.now.raw.cells = c.cells_count-cells.ensures ∙ ap (cells_count c.args.modes) (c.as_slice.ensures ∙ ap (λ (r : RawNetlist). r.cells) c.raw-raw.ensures.value) in
    let registers : c.registers_count-registers.result ≡ registers_count c.args.modes c.args.netlist.now.raw.registers = c.registers_count-registers.ensures ∙ ap (registers_count c.args.modes) (c.as_slice-2.ensures ∙ ap (λ (r : RawNetlist). r.registers) c.raw-raw.ensures.value) in
    omega (arith, cells, registers, length-sites c.args.modes c.args.netlist.now.raw)
