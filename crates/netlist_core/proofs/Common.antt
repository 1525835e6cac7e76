-- What several files here take from the specs of this crate and from the crates below.
pub use Rattle.std.proofs.Common.{[], ◌%◌, ◌*◌, ◌++◌, ◌+◌, ◌-◌, ◌/◌, ◌<◌, ◌^◌, ◌↔◌, ◌∙◌, ◌∷◌, ◌≡◌, ◌≢◌, ◌≤◌, ◌⊎◌, Bool, List, None, Option, Some, ap, arith, cond, drop, eqb, false, get_or, inl, inr}
pub use Rattle.std.proofs.Common.{length, length-set, map, max, min, nat_eq, refl, set, slice_get, subst, suc, sym, take, true, vec_len, zero, ℕ}
pub use Rattle.std.proofs.lemmas.Bool.{cases_Bool, cases_eq, cases_lt, false≢true}
pub use Rattle.std.proofs.lemmas.Bool.Decides.{eqb_tells}
pub use Rattle.std.proofs.lemmas.Grind.{common_steps}
pub use Rattle.std.proofs.lemmas.List.{drop_more, get_or-drop, get_or-set_other, get_or-set_same, get_or-take, get_or_default, get_or_past, get_or_read, length-drop, length-take-le, take-append-drop}
pub use Rattle.std.proofs.lemmas.List.Elements.{Contains-append_cases, Contains-append_left, Contains-append_right}
pub use Rattle.std.specs.List.{All, Contains}
pub use Rattle.net_order.specs.Orders.{AreInside, IsFirst, IsLeast, IsOnLoop, Never, Reads as Lists, row_of}
pub use Rattle.netlist_core.specs.Checked.{AllCellsWide, AllNets, AllPortsNets, AllRegistersFit, AllWide, HasBadShape, IsConnected, IsFormed, IsMisshapen, IsSound, Plan, all_bits, max_cells}
pub use Rattle.netlist_core.specs.Drivers.{HasTwoDrivers, IsUndriven, cell_readers, drivers, readers, times, times_at, y_bits}
pub use Rattle.netlist_core.specs.Marking.{Known, after_bits, after_cells, after_net, after_ports, after_registers, all_known, all_undriven, driver_at, is_driven, known_of, lesser, undriven_at}
pub use Rattle.netlist_core.specs.Marking.{undriven_bits, undriven_cells, undriven_net, unknown, with_driver, with_room}
pub use Rattle.netlist_core.specs.Numbers.{digit, number}
pub use Rattle.netlist_core.specs.Orders.{IsLeastReady, IsOrder, Reads, ReadsThrough, ports_of}
pub use Rattle.netlist_core.specs.Runs.{Computes, Holds, IsRunBy, Nets, Next, Outputs, Sight, bits_at, d_bits, input_ports, output_port, plain, port_numbers, ports_seen, q_bits, shown, taken, values}
pub use Rattle.netlist_core.specs.Settled.{after_cell, after_order, all_zero, laid, laid_all, number_at, with_net}
pub use Rattle.netlist_core.specs.Shapes.{HasShape}
pub use Rattle.netlist_core.specs.Sizes.{counted}
pub use Rattle.netlist_core.specs.Sources.{IsLinked, all_sources, sources, sources_at, with_source, y_of}
pub use Rattle.netlist_core.specs.declared.bit.Bit.{Bit}
pub use Rattle.netlist_core.specs.declared.bit.Bit.TheVariants.{Fixed, Net}
pub use Rattle.netlist_core.specs.declared.cell.Cell.{Cell, Cell as Gate}
pub use Rattle.netlist_core.specs.declared.drivers.Driver.{Driver}
pub use Rattle.netlist_core.specs.declared.drivers.Driver.TheVariants.{Nothing, Source}
pub use Rattle.netlist_core.specs.declared.port.Port.{Port}
pub use Rattle.netlist_core.specs.declared.port.Register.{Register}
pub use Rattle.netlist_core.specs.declared.raw.RawNetlist.{RawNetlist}
