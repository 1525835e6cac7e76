use Rattle.netlist_gates.proofs.Common.{rules, ◌≡◌, ◌+◌, ℕ, List, length, ap, ◌∙◌, RawNetlist, Port, Register, bits_at, q_bits, all_bits, GateLit, Lits, lits_of, no_lits, laid_free}
use Rattle.netlist_gates.proofs.Ahead.{inputs-below, registers-below, zeros-none}
use Rattle.netlist_gates.proofs.free.free_literals.Goals as goal

pub lay_inputs-next-requires-clause-below : goal.lay_inputs-next-requires-clause-below
lay_inputs-next-requires-clause-below c =
    let long : length c.in_ok-table.table.items ≡ c.args.netlist.now.nets = search rules in
    let inputs : c.as_slice.result.now ≡ c.args.netlist.now.raw.inputs = c.as_slice.ensures ∙ ap (λ (r : RawNetlist). r.inputs) c.raw-raw.ensures.value in
    rw (long, inputs) (inputs-below c.args.netlist.now c.raw-raw.ensures.sound)

pub lay_registers-requires-clause-below : goal.lay_registers-requires-clause-below
lay_registers-requires-clause-below c =
    let long : length c.lay_inputs-next.new.table.items ≡ c.args.netlist.now.nets = search rules in
    let registers : c.as_slice-2.result.now ≡ c.args.netlist.now.raw.registers = c.as_slice-2.ensures ∙ ap (λ (r : RawNetlist). r.registers) c.raw-raw.ensures.value in
    rw (long, registers) (registers-below c.args.netlist.now c.raw-raw.ensures.sound)

pub returns-clause-laid : goal.returns-clause-laid
returns-clause-laid c =
    let raw : RawNetlist = c.args.netlist.now.raw in
    let inputs : c.as_slice.result.now ≡ raw.inputs = c.as_slice.ensures ∙ ap (λ (r : RawNetlist). r.inputs) c.raw-raw.ensures.value in
    let registers : c.as_slice-2.result.now ≡ raw.registers = c.as_slice-2.ensures ∙ ap (λ (r : RawNetlist). r.registers) c.raw-raw.ensures.value in
    let start : lits_of c.in_ok-table.table.items ≡ no_lits = ap (λ (t : List GateLit). lits_of t) (c.in_ok-table.ensures.items_if_clones_equal (λ y h. h)) ∙ zeros-none c.nets.result in
    let first : lits_of c.lay_inputs-next.new.table.items ≡ laid_free no_lits 1 (bits_at raw.inputs) =
    c.lay_inputs-next.ensures.laid ∙ ap (λ (l : Lits). laid_free l 1 (bits_at c.as_slice.result.now)) start ∙ ap (λ (ports : List Port). laid_free no_lits 1 (bits_at ports)) inputs in
    let next : c.lay_inputs-next.result ≡ 1 + all_bits (bits_at raw.inputs) = c.lay_inputs-next.ensures.next ∙ ap (λ (ports : List Port). 1 + all_bits (bits_at ports)) inputs in
    c.lay_registers.ensures.laid
    ∙ ap (λ (l : Lits). laid_free l c.lay_inputs-next.result (q_bits c.as_slice-2.result.now)) first
    ∙ ap (λ (n : ℕ). laid_free (laid_free no_lits 1 (bits_at raw.inputs)) n (q_bits c.as_slice-2.result.now)) next
    ∙ ap (λ (rs : List Register). laid_free (laid_free no_lits 1 (bits_at raw.inputs)) (1 + all_bits (bits_at raw.inputs)) (q_bits rs)) registers
