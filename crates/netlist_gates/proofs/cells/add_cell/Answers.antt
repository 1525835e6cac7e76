use Rattle.netlist_gates.proofs.Common.{◌≡◌, List, length, map, sym, ap, subst, ◌∙◌, All, Bit, input_ports, GateLit, count, IsLit, Lits, lits_of, ports_lits, AreWithin}
use Rattle.netlist_gates.proofs.Laying.{ports-wide}
use Rattle.netlist_gates.proofs.Within.{within-later, ports-within, laid-within}
use Rattle.netlist_gates.proofs.cells.add_cell.Goals as goal

pub cell_gates-requires-clause-inputs : goal.cell_gates-requires-clause-inputs
cell_gates-requires-clause-inputs c =
    let lits : Lits = lits_of c.args.table.now.items in
    let ins : List (List Bit) = input_ports c.args.cell.now.ports in
    let rows : c.as_slice-2.result.now ≡ ports_lits lits ins =
    c.as_slice-2.ensures.value ∙ c.in_ok-rows.ensures ∙ ap (λ (t : List GateLit). ports_lits (lits_of t) c.input_ports.result.now) c.as_slice.ensures.value
    ∙ ap (λ (p : List (List Bit)). ports_lits lits p) (c.input_ports.ensures ∙ ap (λ (p : List (List Bit)). input_ports p) c.as_slice-ports.ensures) in
    ap (λ (l : List (List GateLit)). map (λ (bits : List GateLit). length bits) l) rows ∙ ports-wide lits ins

pub cell_gates-requires-clause-literals : goal.cell_gates-requires-clause-literals
cell_gates-requires-clause-literals c =
    let lits : Lits = lits_of c.args.table.now.items in
    let ins : List (List Bit) = input_ports c.args.cell.now.ports in
    let rows : c.as_slice-2.result.now ≡ ports_lits lits ins =
    c.as_slice-2.ensures.value ∙ c.in_ok-rows.ensures ∙ ap (λ (t : List GateLit). ports_lits (lits_of t) c.input_ports.result.now) c.as_slice.ensures.value
    ∙ ap (λ (p : List (List Bit)). ports_lits lits p) (c.input_ports.ensures ∙ ap (λ (p : List (List Bit)). input_ports p) c.as_slice-ports.ensures) in
    subst (λ (l : List (List GateLit)). All (All (IsLit (count c.args.gates.now))) l) (sym rows) (ports-within c.args.gates.now lits c.requires.within ins)

pub returns-clause-within : goal.returns-clause-within
returns-clause-within c =
    let lits : Lits = lits_of c.args.table.now.items in
    let adds = c.in_ok-row.ensures.value in
    subst (λ (l : Lits). AreWithin c.cell_gates.new.gates l) (sym c.lay.ensures.laid)
    (laid-within c.cell_gates.new.gates lits c.output_port.result.now c.as_slice-3.result.now (within-later adds.grows lits c.requires.within)
    (subst (λ (r : List GateLit). All (IsLit (count c.cell_gates.new.gates)) r) (sym c.as_slice-3.ensures) adds.within))
