-- What several files here take from the specs of this crate and from the crates below.
pub use Rattle.std.proofs.Common.{[], ◌%◌, ◌*◌, ◌++◌, ◌+◌, ◌-◌, ◌<◌, ◌∙◌, ◌∷◌, ◌≡◌, ◌≢◌, ◌≤◌, ◌⊎◌, Bool, Err, List, Ok, Option, Some, ap, append_assoc, arith, drop, false, get_or, inl, inr, length}
pub use Rattle.std.proofs.Common.{map, refl, rules, set, slice_get, subst, suc, sym, take, true, zero, ℕ}
pub use Rattle.std.proofs.lemmas.Bool.{cases_lt}
pub use Rattle.std.proofs.lemmas.Bool.Decides.{eqb_tells}
pub use Rattle.std.proofs.lemmas.List.{at_drop_more, length-append, length-map, length-set, map-set}
pub use Rattle.std.specs.List.{All}
pub use Rattle.std.specs.Prelude.{IfOk, filter, not, slice_set}
pub use Rattle.mcy_base.specs.declared.span.Span.{Span}
pub use Rattle.netlist_core.proofs.CellPorts.{cell-there, cell-wide, narrow-ports, not-misshapen}
pub use Rattle.netlist_core.proofs.Owners.{y-one, y-two}
pub use Rattle.netlist_core.specs.Cells.{cell_value}
pub use Rattle.netlist_core.specs.Checked.{AllCellsWide, AllNets, AllPortsNets, AllRegistersFit, AllWide, IsFormed, IsMisshapen, IsRefused, IsSound, Never, Plan, all_bits, net_bits}
pub use Rattle.netlist_core.specs.Drivers.{HasTwoDrivers, IsUndriven, cell_readers, drivers, readers, times, times_at, y_bits}
pub use Rattle.netlist_core.specs.Numbers.{number}
pub use Rattle.netlist_core.specs.Orders.{IsOnLoop, Reads, ReadsThrough, ports_of}
pub use Rattle.netlist_core.specs.Runs.{Computes, Holds, IsRun, IsRunBy, Nets, Next, Outputs, Port, Sight, bit_value, bits_at, d_bits, input_ports, output_port, outputs_by, plain, port_numbers}
pub use Rattle.netlist_core.specs.Runs.{ports_seen, q_bits, shown, taken, values}
pub use Rattle.netlist_core.specs.Settled.{with_net}
pub use Rattle.netlist_core.specs.Shapes.{HasShape, HasWidths, shape_of, widths}
pub use Rattle.netlist_core.specs.declared.bit.Bit.{Bit}
pub use Rattle.netlist_core.specs.declared.bit.Bit.TheVariants.{Fixed, Net}
pub use Rattle.netlist_core.specs.declared.cell.Cell.{Cell as Gate}
pub use Rattle.netlist_core.specs.declared.cell.CellKind.TheVariants.{Not, Xnor, Xor}
pub use Rattle.netlist_core.specs.declared.port.Register.{Register as Flop}
pub use Rattle.netlist_core.specs.declared.raw.RawNetlist.{RawNetlist}
pub use Rattle.mutation_sites.specs.Counts.{cells_count, port_count, ports_count, registers_count}
pub use Rattle.mutation_sites.specs.Modes.{all_modes, is_in, modes_of, set_at}
pub use Rattle.mutation_sites.specs.Mutants.{CellShape, HasEachRun, HasOneMore, HasSameNames, HasSameShapes, IsSite, RunsAlike, cell_shape, change_of, driver_shapes, mutated, mutated_at}
pub use Rattle.mutation_sites.specs.Mutants.{mutated_value, port_at, readers_at, readers_of_bit, register_port, seen, sight_at, with_mutated}
pub use Rattle.mutation_sites.specs.Sites.{bit_sites, bits_sites, cells_sites, port_sites, ports_sites, registers_sites, sites}
pub use Rattle.mutation_sites.specs.Wiring.{IsMutant, bit_of, cell_connected, cells_connected, connected, control_of, mutant_of, new_bit, new_cells, port_connected, ports_connected}
pub use Rattle.mutation_sites.specs.Wiring.{registers_connected, replaced, span_at}
pub use Rattle.mutation_sites.specs.declared.mode.Mode.{Mode}
pub use Rattle.mutation_sites.specs.declared.mode.Mode.TheVariants.{Cnot0, Cnot1, Const0, Const1, Inv}
pub use Rattle.mutation_sites.specs.declared.mode.ModeSet.{ModeSet}
pub use Rattle.mutation_sites.specs.declared.readers.Change.{Change}
pub use Rattle.mutation_sites.specs.declared.readers.Change.TheVariants.{AtBit, AtNet, Nothing}
pub use Rattle.mutation_sites.specs.declared.readers.Readers.{Readers}
pub use Rattle.mutation_sites.specs.declared.site.Place.{Place}
pub use Rattle.mutation_sites.specs.declared.site.Place.TheVariants.{Cell, Register}
pub use Rattle.mutation_sites.specs.declared.site.Site.{Site}
