-- What several files here take from the specs of this crate and from the crates below.
pub use Rattle.std.proofs.Common.{[], ◌++◌, ◌+◌, ◌-◌, ◌<◌, ◌^◌, ◌↔◌, ◌∙◌, ◌∷◌, ◌≡◌, ◌≢◌, ◌≤◌, ◌⊎◌, Bool, Err, List, MatchResult, None, Ok, Option, Result, Some, add-one, ap, arith, cond, false}
pub use Rattle.std.proofs.Common.{get_or, inl, inr, length, map, refl, replicate, set, slice_get, subst, suc, sym, take, true, vec_len, zero, ℕ}
pub use Rattle.std.proofs.lemmas.Bool.{cases_lt, false≢true}
pub use Rattle.std.proofs.lemmas.Bool.Decides.{eqb_tells}
pub use Rattle.std.proofs.lemmas.List.{append-nil, get_or-set_other, get_or-set_same, length-set}
pub use Rattle.std.proofs.lemmas.Option.{slice_get_within}
pub use Rattle.std.specs.List.{Contains}
pub use Rattle.std.specs.Prelude.{IsTrue, MatchOption, slice_index_or}
pub use Rattle.flat_runs.proofs.Ends.{ready_finishes, stepped_on}
pub use Rattle.flat_runs.proofs.Led.{input-led, length-led, output-led}
pub use Rattle.flat_runs.proofs.Lists.{contains_get, get_contains}
pub use Rattle.flat_runs.proofs.Signals.{are_apart, bits_in, net_of, nets_in, one_at-cases, ports_in, times_get, times_in}
pub use Rattle.flat_runs.specs.Adding.{HasOwnNets, IsBit}
pub use Rattle.flat_runs.specs.Designs.{Design}
pub use Rattle.flat_runs.specs.Finishing.{ArePut, AreRegisters, Finishes, IsFirstWith, IsRegister, IsWhole, all_led, led_cell, no_signal, of_input, of_register, to_constant, to_net, unwritten}
pub use Rattle.flat_runs.specs.Parts.{AreCellsBelow, AreFormed, AreJointsBelow, AreRegistersBelow, owners}
pub use Rattle.mcy_base.specs.declared.span.Span.{Span}
pub use Rattle.net_builder.proofs.Following.{closed_follows, loop_back, loop_goes, loop_next, trans}
pub use Rattle.net_builder.proofs.Writing.{has_cases, has_first, has_more, has_none, joint_found, stored_there, stored_told}
pub use Rattle.net_builder.specs.Building.{AllBelow, Building, PortsBelow, signal, start_bits}
pub use Rattle.net_builder.specs.Finished.{Finished, Follows, IsOnLoop, LeadsTo, direct, led_port, led_register, step_of}
pub use Rattle.net_builder.specs.Written.{IsJoined, IsStored, is_stored, joint_of}
pub use Rattle.net_builder.specs.declared.steps.Step.TheVariants.{On}
pub use Rattle.netlist_core.specs.Checked.{AllCellsWide, AllNets, AllPortsNets, AllRegistersFit, AllWide, HasBadShape, IsFormed}
pub use Rattle.netlist_core.specs.Drivers.{HasTwoDrivers, IsUndriven, cell_readers, drivers, times, times_at, y_bits}
pub use Rattle.netlist_core.specs.Runs.{bits_at, d_bits, input_ports, output_port, q_bits}
pub use Rattle.netlist_core.specs.declared.bit.Bit.{Bit}
pub use Rattle.netlist_core.specs.declared.bit.Bit.TheVariants.{Fixed, Net}
pub use Rattle.netlist_core.specs.declared.cell.Cell.{Cell}
pub use Rattle.netlist_core.specs.declared.port.Register.{Register}
pub use Rattle.netlist_core.specs.declared.raw.RawNetlist.{RawNetlist}
pub use Rattle.elab_finish.specs.Checking.{OnlyLoops, span_of}
pub use Rattle.elab_finish.specs.Endings.{AreKnown, AreRegistersOf, CanFinish, IsDesignOf, IsEnding, IsRegisterOf, is_register, is_stored_bit, port_of, registers_in}
pub use Rattle.elab_finish.specs.Heads.{after_lowest, head_in, with_head}
pub use Rattle.elab_finish.specs.Laws.{JoinedAreCovered, RegistersHaveSignals, SignalsHaveRegisters}
pub use Rattle.elab_finish.specs.Loops.{AreCovered, IsFirstLooped, IsLeftLooped, IsLoopFree, IsLooped, next_of}
pub use Rattle.elab_finish.specs.Names.{AreNamedApart, HasMet, IsAgainAt, IsMet, IsNamedAgain, IsRegisterAt, register_name}
pub use Rattle.elab_finish.specs.Ordering.{AddsSlot, AreFilled, AreSlots, IsFilled, IsOnly, IsSlot}
pub use Rattle.elab_finish.specs.Refusals.{IsOver, IsRefused, IsWithin}
pub use Rattle.elab_finish.specs.Searching.{IsNext, IsRounded, IsSettled, IsWalked, LeadsOn, mark_in, one_open, one_unknown, tally}
pub use Rattle.elab_finish.specs.declared.error.DesignError.{DesignError}
pub use Rattle.elab_finish.specs.declared.left.Left.{Left}
pub use Rattle.elab_finish.specs.declared.search.Mark.TheVariants.{Free, From, Looped, Unknown}
