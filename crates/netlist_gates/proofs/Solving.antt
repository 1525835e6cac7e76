-- Wherever the gates hold, the nets have the values that the cells in their order give them.
use Rattle.netlist_gates.proofs.Common.{◌≡◌, ℕ, ◌≤◌, List, [], ◌∷◌, length, slice_get, Option, Some, None, refl, sym, ap, subst, ◌∙◌, arith, Bit, Cell, RawNetlist, Nets, bits_at, q_bits, input_ports}
use Rattle.netlist_gates.proofs.Common.{output_port, plain, Holds, HasShape, free_bits, AllWide, Plan, IsSound, laid_all, number_at, after_cell, after_order, all_zero, settled, OrderSettles}
use Rattle.netlist_gates.proofs.Common.{plain-causal, GateLit, Gates, Hold, Grows, AddsBits, hold-before, grows-none, grows-then, Lits, no_lits, ports_lits, laid_free, AreWithin, nets_of, MadeNets}
use Rattle.netlist_gates.proofs.Common.{first_input, first_register, free_lits, with_cell, with_cells, netlist_made, cell_weight, weight_of, input_numbers, register_numbers, Solves, cell-wide}
use Rattle.clause_store.specs.Clauses.{Values}
use Rattle.netlist_core.specs.Cells.{cell_value}
use Rattle.gate_words.specs.Rows.{MadeRow}
use Rattle.cell_gates.specs.CellRows.{cell_row}
use Rattle.cell_gates.specs.Meanings.{CellIs}
use Rattle.cell_gates.proofs.PortWidths.{cell-told}
use Rattle.netlist_gates.proofs.Laying.{ports-worth, ports-wide, row-laid, free-worth, free-fit}
use Rattle.netlist_gates.proofs.Within.{within-later, ports-within, laid-within, free-within, none-within}

-- each cell has the ports of its kind
abbrev pub AreShaped : List Cell → Type 0
AreShaped cells = (c : ℕ) (cell : Cell) → slice_get cells c ≡ Some cell → HasShape cell × AllWide cell.ports

pub sound-shaped : (plan : Plan) → IsSound plan → AreShaped plan.raw.cells
sound-shaped plan sound c cell is = (sound.connected.driven.shaped.shapes c cell is, cell-wide plan sound c cell is)

-- what was added is at most so much, and the nets have the values that they come to
pub record Leads (old new : MadeNets) (most : ℕ) (settle : Nets → Nets) : Type 0 where
  pub grows : Grows old.gates new.gates most
  pub within : AreWithin new.gates new.lits
  pub worth : (values : Values) → Hold new.gates values → nets_of values new.lits ≡ settle (nets_of values old.lits)

pub some-leads : (c : ℕ) (cell : Cell) (made : MadeNets) → HasShape cell → AllWide cell.ports → AreWithin made.gates made.lits → Leads made (with_cell (Some cell) made) (cell_weight (Some cell)) (after_cell plain c (Some cell))
some-leads c cell made shape wide within =
    let y : List Bit = output_port cell.ports in
    let ins : List (List Bit) = input_ports cell.ports in
    let rows : List (List GateLit) = ports_lits made.lits ins in
    let row : MadeRow = cell_row cell.kind cell.is_signed (length y) made.gates rows in
    let adds : AddsBits made.gates row.gates row.bits (length y) (cell_weight (Some cell)) (CellIs cell.kind cell.is_signed (length y) rows) = cell-told cell.kind cell.is_signed made.gates cell.ports rows shape wide (ports-wide made.lits ins) (ports-within made.gates made.lits within ins) in
    record {
      grows = adds.grows;
      within = laid-within row.gates made.lits y row.bits (within-later adds.grows made.lits within) adds.within;
      worth = λ values holds. row-laid values made.lits y row.bits (number_at (plain (nets_of values made.lits)) c cell) adds.wide
          (adds.is values holds ∙ ap (cell_value cell.kind cell.is_signed (length y)) (ports-worth values made.lits c 0 ins));
    }

pub cell-leads : (c : ℕ) (o : Option Cell) (made : MadeNets) → ((cell : Cell) → o ≡ Some cell → HasShape cell × AllWide cell.ports) → AreWithin made.gates made.lits → Leads made (with_cell o made) (cell_weight o) (after_cell plain c o)
cell-leads c None made shaped within = record { grows = grows-none made.gates 0; within = within; worth = λ values holds. refl }
cell-leads c (Some cell) made shaped within = (let is = shaped cell refl in some-leads c cell made is.0 is.1 within)

pub cells-lead : (cells : List Cell) (order : List ℕ) (made : MadeNets) → AreShaped cells → AreWithin made.gates made.lits → Leads made (with_cells cells order made) (weight_of cells order) (after_order plain cells order)
cells-lead cells [] made shaped within = record { grows = grows-none made.gates 0; within = within; worth = λ values holds. refl }
cells-lead cells (c ∷ more) made shaped within =
    let next : MadeNets = with_cell (slice_get cells c) made in
    let first : Leads made next (cell_weight (slice_get cells c)) (after_cell plain c (slice_get cells c)) = cell-leads c (slice_get cells c) made (shaped c) within in
    let rest : Leads next (with_cells cells more next) (weight_of cells more) (after_order plain cells more) = cells-lead cells more next shaped first.within in
    record {
      grows = grows-then (weight_of cells (c ∷ more)) first.grows rest.grows (omega arith);
      within = rest.within;
      worth = λ values holds. rest.worth values holds ∙ ap (after_order plain cells more) (first.worth values (hold-before rest.grows values holds));
    }

-- The whole netlist.

pub free_lits-within : (netlist : RawNetlist) (gates : Gates) → free_bits netlist ≤ gates.free → AreWithin gates (free_lits netlist)
free_lits-within netlist gates room =
    free-within gates (laid_free no_lits first_input (bits_at netlist.inputs)) (first_register netlist) (q_bits netlist.registers)
    (free-within gates no_lits first_input (bits_at netlist.inputs) (none-within gates) (omega arith) (omega (arith, room))) (omega arith) (omega (arith, room))

pub netlist-leads : (plan : Plan) → IsSound plan → (gates : Gates) → free_bits plan.raw ≤ gates.free → Leads (record { gates = gates; lits = free_lits plan.raw }) (netlist_made gates plan) (weight_of plan.raw.cells plan.order) (after_order plain plan.raw.cells plan.order)
netlist-leads plan sound gates room = cells-lead plan.raw.cells plan.order (record { gates = gates; lits = free_lits plan.raw }) (sound-shaped plan sound) (free_lits-within plan.raw gates room)

free-start : (netlist : RawNetlist) (values : Values) → nets_of values (free_lits netlist) ≡ laid_all (laid_all all_zero (bits_at netlist.inputs) (input_numbers netlist values)) (q_bits netlist.registers) (register_numbers netlist values)
free-start netlist values =
    free-worth values (laid_free no_lits first_input (bits_at netlist.inputs)) (first_register netlist) (q_bits netlist.registers)
    ∙ ap (λ (x : Nets). laid_all x (q_bits netlist.registers) (register_numbers netlist values)) (free-worth values no_lits first_input (bits_at netlist.inputs))

pub netlist-solves : OrderSettles → (plan : Plan) → IsSound plan → (gates : Gates) → free_bits plan.raw ≤ gates.free → Solves plan.raw (netlist_made gates plan).gates (netlist_made gates plan).lits
netlist-solves settles plan sound gates room values holds =
    let raw : RawNetlist = plan.raw in
    let inputs : List ℕ = input_numbers raw values in
    let state : List ℕ = register_numbers raw values in
    let leads = netlist-leads plan sound gates room in
    let is : nets_of values (netlist_made gates plan).lits ≡ settled plain raw plan.order all_zero inputs state = leads.worth values holds ∙ ap (after_order plain raw.cells plan.order) (free-start raw values) in
    subst (λ (x : Nets). Holds (plain x) x raw inputs state) (sym is) (settles plan plain sound (plain-causal raw) all_zero inputs state (free-fit values first_input (bits_at raw.inputs)) (free-fit values (first_register raw) (q_bits raw.registers)))

-- What is made of a netlist.

abbrev pub made_as : Gates → Lits → MadeNets
made_as gates lits = record { gates = gates; lits = lits }

pub made-told : (plan : Plan) (gates new : Gates) (lits start : Lits) → start ≡ free_lits plan.raw → made_as new lits ≡ with_cells plan.raw.cells plan.order (made_as gates start) → made_as new lits ≡ netlist_made gates plan
made-told plan gates new lits start free made = made ∙ ap (λ (l : Lits). with_cells plan.raw.cells plan.order (made_as gates l)) free

pub solves-told : OrderSettles → (plan : Plan) → IsSound plan → (gates new : Gates) (lits : Lits) → free_bits plan.raw ≤ gates.free → made_as new lits ≡ netlist_made gates plan → Solves plan.raw new lits
solves-told settles plan sound gates new lits room made = subst (λ (m : MadeNets). Solves plan.raw m.gates m.lits) (sym made) (netlist-solves settles plan sound gates room)

pub within-told : (plan : Plan) → IsSound plan → (gates new : Gates) (lits : Lits) → free_bits plan.raw ≤ gates.free → made_as new lits ≡ netlist_made gates plan → AreWithin new lits
within-told plan sound gates new lits room made = subst (λ (m : MadeNets). AreWithin m.gates m.lits) (sym made) (netlist-leads plan sound gates room).within

pub grows-told : (plan : Plan) → IsSound plan → (gates new : Gates) (lits : Lits) → free_bits plan.raw ≤ gates.free → made_as new lits ≡ netlist_made gates plan → Grows gates new (weight_of plan.raw.cells plan.order)
grows-told plan sound gates new lits room made = subst (λ (m : MadeNets). Grows gates m.gates (weight_of plan.raw.cells plan.order)) (sym made) (netlist-leads plan sound gates room).grows
