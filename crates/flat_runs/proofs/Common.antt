-- What several files here take from the specs of this crate and from the crates below.
pub use Rattle.std.proofs.Common.{[], ◌%◌, ◌*◌, ◌++◌, ◌+◌, ◌-◌, ◌/◌, ◌<◌, ◌^◌, ◌||◌, ◌∙◌, ◌∷◌, ◌≡◌, ◌≢◌, ◌≤◌, ◌⊎◌, Bool, List, None, Option, Some, ap, append_assoc, arith, false, inl, inr, length}
pub use Rattle.std.proofs.Common.{map, nat_eq, refl, slice_get, subst, suc, sym, true, zero, ℕ}
pub use Rattle.std.proofs.lemmas.Bool.{cases_lt, false_from_ne_true, false≢true, or_cases, or_left, or_right}
pub use Rattle.std.proofs.lemmas.Bool.Decides.{eqb_tells}
pub use Rattle.std.proofs.lemmas.List.{append-nil}
pub use Rattle.std.proofs.lemmas.List.Elements.{Contains-append_cases, Contains-append_left, Contains-append_right}
pub use Rattle.std.proofs.lemmas.Nat.Bits.{bit_at-lt, bit_at-suc, bit_at_lowest}
pub use Rattle.std.proofs.lemmas.Option.{get_or_from_slice_get, slice_get_read, slice_get_within}
pub use Rattle.std.specs.Int.{bit_at}
pub use Rattle.std.specs.List.{Contains}
pub use Rattle.std.specs.Prelude.{if◌then◌else◌, slice_index_or}
pub use Rattle.net_builder.proofs.Writing.{has_cases, has_first, has_more, has_net_there, has_net_told, has_none, joint_found, joint_none, stored_there, stored_told}
pub use Rattle.net_builder.specs.Building.{AllBelow, AreAdded, Building, Grows, PortsBelow, RunsIn, empty, fresh_bits, signal, store, with_cell, with_declared}
pub use Rattle.net_builder.specs.Written.{IsJoined, IsStored, has_net, is_stored, joint_of}
pub use Rattle.net_builder.specs.declared.builder.Joint.{Joint}
pub use Rattle.netlist_core.proofs.Settles.{laid-number, laid-other, laid_all-numbers, length-values, number-fits}
pub use Rattle.netlist_core.specs.Cells.{cell_value}
pub use Rattle.netlist_core.specs.Drivers.{times, times_at, y_bits}
pub use Rattle.netlist_core.specs.Numbers.{digit, number}
pub use Rattle.netlist_core.specs.Runs.{Computes, Holds, IsRun, Nets, bit_value, bits_at, input_ports, output_port, outputs_by, plain, port_numbers, ports_seen, q_bits, shown, taken, values}
pub use Rattle.netlist_core.specs.Settled.{all_zero, laid, laid_all, number_at}
pub use Rattle.netlist_core.specs.declared.bit.Bit.{Bit}
pub use Rattle.netlist_core.specs.declared.bit.Bit.TheVariants.{Fixed, Net}
pub use Rattle.netlist_core.specs.declared.cell.Cell.{Cell}
pub use Rattle.netlist_core.specs.declared.port.Register.{Register}
pub use Rattle.vlog_meaning.specs.Scopes.{Store}
pub use Rattle.flat_runs.specs.Adding.{AddsItem, AddsItems, AgreeBelow, Extended, Extends, HasOwnNets, IsBit, IsWritten, Means, Take}
pub use Rattle.flat_runs.specs.Designs.{Cycle, Design, IsFree, IsSourceRun, next_of, outputs_of, source_outputs, source_states}
pub use Rattle.flat_runs.specs.Finishing.{ArePut, AreRegisters, Begins, Finishes, IsFirstWith, IsPut, IsRegister, IsWhole, LeadsTo, all_led, led, led_cell, no_signal, of_input, of_register}
pub use Rattle.flat_runs.specs.Finishing.{to_constant, to_net, unwritten}
pub use Rattle.flat_runs.specs.Laws.{AssignsAdd, BuiltRuns, CellsExtend, ClockedAdd, CombinationalAdd, DeclaredOwnNets, DeclaredStandBelow, ItemFollows, JointsStandBelow, NothingIsWritten}
pub use Rattle.flat_runs.specs.Laws.{OneWriterStarts, OneWriterStays, OwnNetsStay, ReadyFinishes, RegistersOfItems, RegistersStandBelow, RunsAlike, StartsStandBelow, VariablesStandBelow}
pub use Rattle.flat_runs.specs.Laws.{netlist_states}
pub use Rattle.flat_runs.specs.Meanings.{AllSay, Assign, Clocked, Combinational, Joins, LeftIs, Meaning, NamesOnce, NoneTwice, Place, SameBut, SomeWrites, Taken, Writes, WritesOnce, all_leave}
pub use Rattle.flat_runs.specs.Meanings.{all_stored, leaves, stored_by, taken_by}
pub use Rattle.flat_runs.specs.Parts.{AllJoin, AllMean, AreCellsBelow, AreFormed, AreJoints, AreJointsBelow, AreRegistersBelow, AreStored, StandsBelow, owners, places_from, whole, with_joints}
pub use Rattle.flat_runs.specs.Parts.{with_registers}
