-- What several files here take from the specs of this crate and from the crates below.
pub use Rattle.std.proofs.Common.{[], ◌%◌, ◌*◌, ◌++◌, ◌+◌, ◌-◌, ◌<◌, ◌^◌, ◌∙◌, ◌∷◌, ◌≡◌, ◌≤◌, Bool, List, ap, arith, drop, false, get_or, if◌then◌else◌, length, map, max, not, refl, replicate, subst}
pub use Rattle.std.proofs.Common.{suc, sym, take, true, zero, ℕ}
pub use Rattle.std.proofs.Math.Nat.{mod-eq_of_lt, mul-le-mul_left}
pub use Rattle.std.proofs.lemmas.List.{length-append, length-map, length-replicate, length-take, length-take-le, map-append, take-map, take-replicate}
pub use Rattle.std.proofs.lemmas.List.Elements.{All-append, All-cons, All-head, All-nil, All-replicate, All-tail, All-take}
pub use Rattle.std.specs.List.{All, fold}
pub use Rattle.std.specs.Prelude.{bit_and, bit_or, bit_xor}
pub use Rattle.clause_store.specs.Clauses.{Values}
pub use Rattle.gate_list.specs.Gates.{Gates, IsLit, count, lit_value}
pub use Rattle.gate_list.specs.declared.literal.GateLit.{GateLit}
pub use Rattle.gate_list.specs.declared.literal.GateLit.TheVariants.{Fixed}
pub use Rattle.gate_words.proofs.Adders.{difference-number, equal-adds, less-adds, lits-negated, sum-number, values-negated}
pub use Rattle.gate_words.proofs.Growing.{grown-length, grows-most, grows-none, grows-then, hold-before, lit-later, lits-later, row-told}
pub use Rattle.gate_words.proofs.Moving.{both-chosen, map-replicate, take-append-take}
pub use Rattle.gate_words.proofs.Numbers.{fold-all, fold-odd, fold-some, not-zero, number-not}
pub use Rattle.gate_words.specs.Bits.{AddsBits, AddsLit, Grows, both_bits, lit_values, operation_value}
pub use Rattle.gate_words.specs.Rows.{IsOperation, MadeRow, chain_of, fitted_to, made_by, row_of}
pub use Rattle.gate_words.specs.Shifts.{moved, shift_of}
pub use Rattle.gate_words.specs.declared.operation.Operation.TheVariants.{And, Or, Xor}
pub use Rattle.gate_words.specs.declared.shifts.Way.TheVariants.{Down, Up}
pub use Rattle.netlist_core.specs.Cells.{all_ones, laid_at, odd_ones, some_one, top_bit}
pub use Rattle.netlist_core.specs.Numbers.{digit, number}
pub use Rattle.netlist_core.specs.Shapes.{HasWidths, shape_of, widths}
pub use Rattle.netlist_core.specs.declared.bit.Bit.{Bit}
pub use Rattle.netlist_core.specs.declared.cell.CellKind.{CellKind}
pub use Rattle.netlist_core.specs.declared.shape.Shape.{Shape}
pub use Rattle.netlist_core.specs.declared.shape.Shape.TheVariants.{Binary, Choice, Insertion, Logical, Reduction, Relation, Selection, Shift, Unary}
pub use Rattle.cell_gates.specs.CellRows.{cell_row, first_lit, kept_in, logical, put_in, reduced, top_lit}
pub use Rattle.cell_gates.specs.Meanings.{CellIs}
pub use Rattle.cell_gates.specs.Weights.{weight}
