-- What several files here take from the specs of this crate and from the crates below.
pub use Rattle.std.proofs.Common.{[], ◌%◌, ◌*◌, ◌++◌, ◌+◌, ◌-ℤ◌, ◌-◌, ◌<◌, ◌^◌, ◌∙◌, ◌∷◌, ◌≡◌, ◌≤◌, ◌⊎◌, Bool, List, ap, append_assoc, arith, drop, eqb, false, get_or, if◌then◌else◌, inl, inr, length}
pub use Rattle.std.proofs.Common.{ltb, map, negsuc, not, pos, refl, replicate, subst, suc, sym, take, true, true≢false, zero, ℕ}
pub use Rattle.std.proofs.lemmas.Bool.{cases_lt, false≢true}
pub use Rattle.std.proofs.lemmas.Bool.Decides.{eqb_tells, leb_tells}
pub use Rattle.std.proofs.lemmas.List.{append-nil, drop-append-le, drop-drop, drop-map, drop-replicate, drop_all, drop_more, length-append, length-drop, length-map, length-replicate, length-take-le}
pub use Rattle.std.proofs.lemmas.List.{map-append, replicate-append-replicate, take-append-drop, take-append-le, take-map, take-replicate, take-take, take_all, take_rest}
pub use Rattle.std.proofs.lemmas.List.Elements.{All-append, All-cons, All-drop, All-head, All-map, All-nil, All-replicate, All-tail, All-take, All-weaker}
pub use Rattle.std.specs.List.{All, fold}
pub use Rattle.std.specs.Prelude.{int_lt, nat_eq, nat_le, nat_lt}
pub use Rattle.clause_store.specs.Clauses.{Values}
pub use Rattle.gate_list.proofs.Adding.{adds-and, adds-mux, adds-or, adds-xor, lit-negated, value-negated}
pub use Rattle.gate_list.specs.Folding.{Made, and_of, negated, or_of, xor_of}
pub use Rattle.gate_list.specs.Gates.{Adds, Gates, Hold, HoldFrom, IsLit, count, lit_value}
pub use Rattle.gate_list.specs.declared.literal.GateLit.{GateLit}
pub use Rattle.gate_list.specs.declared.literal.GateLit.TheVariants.{Fixed, Var}
pub use Rattle.netlist_core.proofs.Settles.{number-fits}
pub use Rattle.netlist_core.specs.Cells.{all_ones, is_less, odd_ones, signed_number, some_one, top_bit}
pub use Rattle.netlist_core.specs.Numbers.{digit, number}
pub use Rattle.gate_words.specs.Bits.{AddsBits, AddsLit, Grows, both_bits, lit_values, operation_value}
pub use Rattle.gate_words.specs.Rows.{IsOperation, MadeRow, chain_of, made_by, row_of}
pub use Rattle.gate_words.specs.Shifts.{moved, past_end, shift_from, shift_of}
pub use Rattle.gate_words.specs.Sums.{MadeBit, carry_of, carry_out, difference_of, equal_of, full_sum, last_sum, less_of, ordered, sum_of, top_negated}
pub use Rattle.gate_words.specs.declared.operation.Operation.{Operation}
pub use Rattle.gate_words.specs.declared.operation.Operation.TheVariants.{And, Mux, Or, Xor}
pub use Rattle.gate_words.specs.declared.shifts.Way.{Way}
pub use Rattle.gate_words.specs.declared.shifts.Way.TheVariants.{Down, Up}
