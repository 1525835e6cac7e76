-- What several files here take from the specs of this crate and from the crates below.
pub use Rattle.std.proofs.Common.{[], ◌%◌, ◌*◌, ◌++◌, ◌+◌, ◌/◌, ◌<◌, ◌^◌, ◌∙◌, ◌∷◌, ◌≡◌, ◌≤◌, Bool, List, None, Option, Some, ap, arith, drop, false, get_or, if◌then◌else◌, length, map, nat_eq, refl}
pub use Rattle.std.proofs.Common.{replicate, rules, slice_get, subst, suc, sym, take, true, zero, ℕ}
pub use Rattle.std.proofs.lemmas.List.{drop_more, length-map}
pub use Rattle.std.specs.List.{All}
pub use Rattle.gate_list.specs.Gates.{Gates, Hold, IsLit, count, lit_value}
pub use Rattle.gate_list.specs.declared.literal.GateLit.{GateLit}
pub use Rattle.gate_words.proofs.Growing.{grown-length, grows-none, grows-then, hold-before, lit-later}
pub use Rattle.gate_words.specs.Bits.{AddsBits, Grows, lit_values}
pub use Rattle.netlist_core.proofs.CellPorts.{bits-below, cell-read, cell-wide, cells-of, ordered, output-below}
pub use Rattle.netlist_core.proofs.Settles.{number-fits, plain-causal}
pub use Rattle.netlist_core.specs.Checked.{AllWide, IsSound, Plan, all_bits, free_bits}
pub use Rattle.netlist_core.specs.Runs.{Holds, Nets, bit_value, bits_at, input_ports, output_port, plain, ports_seen, q_bits, values as bit_values}
pub use Rattle.netlist_core.specs.Settled.{after_cell, after_order, all_zero, laid, laid_all, number_at, with_net}
pub use Rattle.netlist_core.specs.Shapes.{HasShape, widths}
pub use Rattle.netlist_core.specs.Solutions.{FitPorts, OrderSettles, settled}
pub use Rattle.netlist_core.specs.declared.bit.Bit.{Bit}
pub use Rattle.netlist_core.specs.declared.bit.Bit.TheVariants.{Fixed, Net}
pub use Rattle.netlist_core.specs.declared.cell.Cell.{Cell}
pub use Rattle.netlist_core.specs.declared.port.Port.{Port}
pub use Rattle.netlist_core.specs.declared.port.Register.{Register}
pub use Rattle.netlist_core.specs.declared.raw.RawNetlist.{RawNetlist}
pub use Rattle.netlist_gates.specs.Made.{MadeNets, cell_weight, first_input, first_register, free_lits, netlist_made, weight_of, with_cell, with_cells}
pub use Rattle.netlist_gates.specs.Meanings.{Solves, free_numbers, input_numbers, register_numbers}
pub use Rattle.netlist_gates.specs.NetLits.{AreWithin, Lits, bit_lit, bits_lits, laid_free, laid_lits, lits_of, nets_of, no_lits, ports_lits, variables, with_lit}
