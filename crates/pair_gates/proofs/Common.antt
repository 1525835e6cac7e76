-- What several files here take from the specs of this crate and from the crates below.
pub use Rattle.std.proofs.Common.{[], ◌++◌, ◌+◌, ◌-◌, ◌<◌, ◌^◌, ◌↔◌, ◌∙◌, ◌∷◌, ◌≡◌, ◌≤◌, ◌⊎◌, Bool, List, None, Option, Some, ap, arith, drop, false, get_or, if◌then◌else◌, inl, inr, length, map, not}
pub use Rattle.std.proofs.Common.{refl, subst, suc, sym, true, true≢false, zero, ℕ, ℤ}
pub use Rattle.std.proofs.lemmas.List.{append-nil, append_assoc, drop_more, length-append, length-map, map-append}
pub use Rattle.std.specs.Prelude.{Err, IfErr, IsErrAnd, MatchOption, Ok, Result, slice_get}
pub use Rattle.clause_store.specs.Clauses.{IsModel, Values}
pub use Rattle.gate_clauses.specs.Encoding.{IsSome, miter_clauses}
pub use Rattle.gate_list.specs.Gates.{AreOrdered, Gates, Hold, IsLit, count, lit_value}
pub use Rattle.gate_list.specs.Laws.{AgreeUpTo, GatesHaveValues}
pub use Rattle.gate_list.specs.declared.literal.GateLit.{GateLit}
pub use Rattle.gate_words.proofs.Growing.{grown-length, hold-before}
pub use Rattle.gate_words.specs.Bits.{AddsBits, Grows, both_bits, lit_values, operation_value}
pub use Rattle.gate_words.specs.Rows.{MadeRow, row_of}
pub use Rattle.gate_words.specs.declared.operation.Operation.TheVariants.{Xor}
pub use Rattle.mutation_sites.specs.Mutants.{CellShape, HasOneMore, HasSameShapes, cell_shape, driver_shapes}
pub use Rattle.netlist_core.proofs.Settles.{length-values, number-injective, plain-causal}
pub use Rattle.netlist_core.specs.Checked.{AllCellsWide, AllRegistersFit, IsFormed, IsSound, Plan, all_bits, free_bits}
pub use Rattle.netlist_core.specs.Numbers.{number}
pub use Rattle.netlist_core.specs.Runs.{Holds, Nets, bit_value, bits_at, d_bits, plain, port_numbers, q_bits, shown, taken, values, values as bit_values}
pub use Rattle.netlist_core.specs.declared.bit.Bit.{Bit}
pub use Rattle.netlist_core.specs.declared.port.Port.{Port}
pub use Rattle.netlist_core.specs.declared.port.Register.{Register}
pub use Rattle.netlist_core.specs.declared.raw.RawNetlist.{RawNetlist}
pub use Rattle.netlist_gates.proofs.Solving.{made_as, netlist-leads, netlist-solves}
pub use Rattle.netlist_gates.proofs.Within.{bits-within, within-later}
pub use Rattle.netlist_gates.specs.Made.{MadeNets, cell_weight, first_input, first_register, netlist_made, weight_of}
pub use Rattle.netlist_gates.specs.Meanings.{free_numbers, input_numbers, register_numbers}
pub use Rattle.netlist_gates.specs.NetLits.{AreWithin, Lits, bit_lit, bits_lits, lits_of, nets_of, variables}
pub use Rattle.step_trials.specs.Equal.{StepsAlike, design}
pub use Rattle.step_trials.specs.Inputs.{joined}
pub use Rattle.pair_gates.specs.Copies.{copies, pair_row, step_bits}
pub use Rattle.pair_gates.specs.Laws.{AcceptedWantMemory, AlikeAreNotApart, MutantsAreAccepted, MutantsAreAlike}
pub use Rattle.pair_gates.specs.Matching.{AllStand, AreAlike, HaveSamePorts, HaveSameRegisters, IsFirstAlone, Named, PortsDiffer, RegistersDiffer, ports_named, registers_named}
pub use Rattle.pair_gates.specs.Weights.{cells_weight}
