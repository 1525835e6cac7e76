-- What several files here take from the specs of this crate and from the crates below.
pub use Rattle.std.proofs.Common.{[], ◌%◌, ◌*◌, ◌++◌, ◌+◌, ◌-◌, ◌/◌, ◌<◌, ◌^◌, ◌∙◌, ◌∷◌, ◌≡◌, ◌≢◌, ◌≤◌, ◌⊎◌, Bool, List, Option, Some, ap, arith, bit_and, bit_or, drop, false, get_or, inl, inr}
pub use Rattle.std.proofs.Common.{length, map, nat_eq, not, option_to_list, refl, replicate, set, slice_get, subst, suc, sym, take, true, w64, zero, ℕ}
pub use Rattle.std.proofs.Math.Nat.{add-mul-mod_self_left, mod-eq_of_lt, pow-le-pow_right}
pub use Rattle.std.proofs.lemmas.Bool.{cases_lt}
pub use Rattle.std.proofs.lemmas.Bool.Decides.{eqb_tells}
pub use Rattle.std.proofs.lemmas.List.{append-nil, append_assoc, drop-drop, drop-map, drop-take, drop_all, drop_at, drop_more, get_or-append-add, get_or-map, get_or-replicate, get_or-set_other}
pub use Rattle.std.proofs.lemmas.List.{get_or-set_same, get_or-take, get_or_append_left, get_or_default, get_or_past, get_or_read, length-append, length-drop, length-map, length-replicate, length-set}
pub use Rattle.std.proofs.lemmas.List.{length-take, length-take-le, length_push, map-append, set-get_or, take-append-drop, take-map, take-set-le, take-take, take_all, take_at, take_more}
pub use Rattle.std.proofs.lemmas.Nat.{and_mask, mod_below, mul-le, pow-add, pow_pos, shl_whole, shr-shr, shr_high, shr_le}
pub use Rattle.std.proofs.lemmas.Nat.Bits.{bit_at-trailing_zeros, bit_at-zero, bit_at_above, bit_at_clear_other, bit_at_clear_same, bit_at_ones, bit_at_set_other, bit_at_set_same}
pub use Rattle.std.proofs.lemmas.Option.{same_Some, slice_get-get_or, slice_get_read}
pub use Rattle.std.specs.Int.{bit_at, trailing_zeros}
pub use Rattle.std.specs.List.{All, Contains}
pub use Rattle.std.specs.Prelude.{IsTrue, bit_xor, slice_index}
pub use Rattle.cell_meaning.proofs.Parts.{number-append, number-drop, number-ones, number-zeros, wrapped}
pub use Rattle.cell_meaning.specs.Words.{HasValue, word_bits}
pub use Rattle.mcy_base.specs.declared.word.Word.{Word}
pub use Rattle.netlist_core.proofs.CellPorts.{cell-inside as found-inside, cell-read, cell-wide, cells-of}
pub use Rattle.netlist_core.proofs.Reading.{cell-reads, order-few}
pub use Rattle.netlist_core.proofs.Settles.{laid-other, laid_all-numbers, laid_all-other, length-values, number-fits, plain-causal, values-agree, with_net-same}
pub use Rattle.netlist_core.specs.Cells.{cell_number, cell_value, some_one}
pub use Rattle.netlist_core.specs.Checked.{AllCellsWide, AllPortsNets, AllRegistersFit, AllWide, IsSound, Plan}
pub use Rattle.netlist_core.specs.Drivers.{cell_readers, drivers, readers, times, times_at, y_bits}
unfoldable pub use Rattle.netlist_core.specs.Numbers.{low_bits}
pub use Rattle.netlist_core.specs.Numbers.{digit, number}
pub use Rattle.netlist_core.specs.Orders.{Reads, ports_of}
pub use Rattle.netlist_core.specs.Runs.{Holds, IsRun, Nets, bit_value, bits_at, d_bits, input_ports, output_port, plain, port_numbers, ports_seen, q_bits, shown, taken, values}
pub use Rattle.netlist_core.specs.Settled.{all_zero, laid, laid_all, number_at, with_net}
pub use Rattle.netlist_core.specs.Shapes.{HasShape, HasWidths, shape_of}
pub use Rattle.netlist_core.specs.Solutions.{FitPorts, OneRunBySight, driving}
pub use Rattle.netlist_core.specs.declared.bit.Bit.{Bit}
pub use Rattle.netlist_core.specs.declared.bit.Bit.TheVariants.{Fixed, Net}
pub use Rattle.netlist_core.specs.declared.cell.Cell.{Cell}
pub use Rattle.netlist_core.specs.declared.cell.CellKind.{CellKind}
pub use Rattle.netlist_core.specs.declared.cell.CellKind.TheVariants.{Add, And, Eq, Mux, Or, Xor}
pub use Rattle.netlist_core.specs.declared.port.Register.{Register}
pub use Rattle.netlist_core.specs.declared.raw.RawNetlist.{RawNetlist}
pub use Rattle.cycle_sim.specs.Gates.{AllGates, IsComputable, IsGate, IsGateOf, gate_number}
pub use Rattle.cycle_sim.specs.Marks.{AreAdded, AreHeld, AreReaders, IsComputed, IsCurrent, IsPut, ReadsDriver, front, mark_at}
pub use Rattle.cycle_sim.specs.Parts.{AllInside, AllReadable, AllWhole, AllWired, IsInside, IsRead, IsReadable, IsReading, IsWired, all_bits, part_bits, part_number, parts_number, source_bits}
pub use Rattle.cycle_sim.specs.Parts.{source_number, total, wires_bits}
pub use Rattle.cycle_sim.specs.Places.{AreBelow, AreMarked, ArePlaced, ArePortsPlaced, IsAt, place_of}
pub use Rattle.cycle_sim.specs.Simulated.{HaveWidths, Simulated, nets_of, numbers_of, settled_nets}
pub use Rattle.cycle_sim.specs.declared.parts.Gate.{Gate}
pub use Rattle.cycle_sim.specs.declared.parts.Part.{Part}
pub use Rattle.cycle_sim.specs.declared.parts.Place.{Place}
pub use Rattle.cycle_sim.specs.declared.parts.Reading.{Reading}
pub use Rattle.cycle_sim.specs.declared.parts.Reading.TheVariants.{Number, Several, Single, Whole}
pub use Rattle.cycle_sim.specs.declared.parts.Source.{Source}
pub use Rattle.cycle_sim.specs.declared.parts.Source.TheVariants.{Constant, Driver}
pub use Rattle.cycle_sim.specs.declared.parts.Wires.{Wires}
