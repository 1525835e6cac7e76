use Rattle.cell_gates.proofs.Common.{◌≡◌, ℕ, List, length, sym, subst, ap, ◌∙◌, arith, Bit, shape_of, HasWidths, GateLit, grown-length, row-told, cell_row}
use Rattle.netlist_core.specs.Runs.{output_port}
use Rattle.cell_gates.proofs.PortWidths.{same-widths, inputs-narrow, cell-told}
use Rattle.cell_gates.proofs.cells.cell_gates.Goals as goal

pub returns-then-len-gt-MOST_GATES-clause-too_many : goal.returns-then-len-gt-MOST_GATES-clause-too_many
returns-then-len-gt-MOST_GATES-clause-too_many c same =
    let adds = cell-told c.args.cell.now.kind c.args.cell.now.is_signed c.args.gates.now c.args.cell.now.ports c.args.inputs.now c.requires.shape c.requires.wide c.requires.inputs c.requires.literals in
    omega (arith, (grown-length adds.grows).0, c.len.ensures.number, c.if-len-gt-MOST_GATES.true)

pub of_inputs-requires-clause-shape : goal.of_inputs-requires-clause-shape
of_inputs-requires-clause-shape c =
    let width : c.y_width-width.result ≡ length (output_port c.args.cell.now.ports) = c.y_width-width.ensures ∙ ap (λ (l : List (List Bit)). length (output_port l)) c.as_slice.ensures in
    subst (λ (l : List ℕ). HasWidths (shape_of c.args.cell.now.kind) l) (sym (same-widths (shape_of c.args.cell.now.kind) c.args.cell.now.ports c.args.inputs.now c.y_width-width.result c.requires.shape c.requires.inputs width)) c.requires.shape

pub of_inputs-requires-clause-narrow : goal.of_inputs-requires-clause-narrow
of_inputs-requires-clause-narrow c = inputs-narrow c.args.cell.now.ports c.args.inputs.now c.requires.wide c.requires.inputs

pub returns-clause-value : goal.returns-clause-value
returns-clause-value c =
    let width : c.y_width-width.result ≡ length (output_port c.args.cell.now.ports) = c.y_width-width.ensures ∙ ap (λ (l : List (List Bit)). length (output_port l)) c.as_slice.ensures in
    row-told (cell_row c.args.cell.now.kind c.args.cell.now.is_signed (length (output_port c.args.cell.now.ports)) c.args.gates.now c.args.inputs.now)
    (ap (λ (l : List GateLit). record { gates = c.of_inputs.new.gates; bits = l }) c.from_vec.ensures ∙ c.in_ok-bits.ensures ∙ ap (λ (w : ℕ). cell_row c.args.cell.now.kind c.args.cell.now.is_signed w c.args.gates.now c.args.inputs.now) width)
    (cell-told c.args.cell.now.kind c.args.cell.now.is_signed c.args.gates.now c.args.cell.now.ports c.args.inputs.now c.requires.shape c.requires.wide c.requires.inputs c.requires.literals)
