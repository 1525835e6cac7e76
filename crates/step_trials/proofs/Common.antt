-- What several files here take from the specs of this crate and from the crates below.
pub use Rattle.std.proofs.Common.{[], ◌%◌, ◌*◌, ◌++◌, ◌+◌, ◌-◌, ◌/◌, ◌<◌, ◌^◌, ◌∙◌, ◌∷◌, ◌≡◌, ◌≤◌, ◌⊎◌, Bool, List, None, Option, Some, ap, arith, drop, false, get_or, if◌then◌else◌, inl, inr, length}
pub use Rattle.std.proofs.Common.{length-drop, map, nat_eq, refl, set, slice_get, subst, suc, sym, take, true, zero, ℕ}
pub use Rattle.std.proofs.lemmas.List.{append-nil, append_assoc, drop_more, get_or_append_left, get_or_default, length-append, length-map, length-set, length-take, map-append, take_all}
pub use Rattle.std.proofs.lemmas.Nat.{mod-pow-add, pow_below, pow_pos}
pub use Rattle.std.proofs.lemmas.Result.{IfOk-weaker}
pub use Rattle.std.specs.Prelude.{◌&&◌, ◌↔◌, IsSome, IsTrue, MatchOption}
pub use Rattle.mutation_sites.specs.Mutants.{HasEachRun, HasOneMore, RunsAlike, change_of, mutated_at, mutated_value, port_at, readers_at, readers_of_bit, register_port, seen, sight_at, with_mutated}
pub use Rattle.mutation_sites.specs.declared.site.Site.{Site}
pub use Rattle.netlist_core.proofs.CellPorts.{bits-below, cell-read, cell-wide, cells-of, ordered, output-below}
pub use Rattle.netlist_core.proofs.Settles.{length-values, number-fits, plain-causal, values-agree}
pub use Rattle.netlist_core.specs.Cells.{cell_value}
pub use Rattle.netlist_core.specs.Checked.{AllRegistersFit, AllWide, IsSound, Plan}
pub use Rattle.netlist_core.specs.Drivers.{times, times_at, y_bits}
unfoldable pub use Rattle.netlist_core.specs.Numbers.{low_bits}
pub use Rattle.netlist_core.specs.Numbers.{digit, number}
pub use Rattle.netlist_core.specs.Runs.{Holds, IsRunBy, Nets, Next, Outputs, Reader, Sight, bit_value, bits_at, d_bits, input_ports, output_port, outputs_by, plain, port_numbers, ports_seen, q_bits}
pub use Rattle.netlist_core.specs.Runs.{shown, taken, values}
pub use Rattle.netlist_core.specs.Settled.{after_cell, after_order, all_zero, laid, laid_all, number_at, with_net}
pub use Rattle.netlist_core.specs.Solutions.{AgreeAround, FitPorts, FitsInputs, FitsRegisters, IsCausal, OneAnswerBySight, OrderSettles, driving, settled}
pub use Rattle.netlist_core.specs.declared.bit.Bit.{Bit}
pub use Rattle.netlist_core.specs.declared.bit.Bit.TheVariants.{Fixed, Net}
pub use Rattle.netlist_core.specs.declared.cell.Cell.{Cell, Cell as Gate}
pub use Rattle.netlist_core.specs.declared.port.Port.{Port}
pub use Rattle.netlist_core.specs.declared.port.Register.{Register, Register as Flop}
pub use Rattle.netlist_core.specs.declared.raw.RawNetlist.{RawNetlist}
pub use Rattle.step_trials.specs.Equal.{EqualOnAllRuns, HasOneSolution, Machine, OneStepEqual, StepsAlike, design, mutant}
pub use Rattle.step_trials.specs.EqualLaws.{DesignsHaveOneSolution, MutantsAreNetlists, MutantsHaveOneSolution}
pub use Rattle.step_trials.specs.Inputs.{free_list, inputs_of, joined, parts, state_of}
pub use Rattle.step_trials.specs.Tables.{HasInputs, nets_of}
pub use Rattle.step_trials.specs.Trials.{EqualAt, GivesAll, GivesAt, HoldsAt, given}
