-- What several files here take from the specs of this crate and from the crates below.
pub use Rattle.std.proofs.Common.{[], ◌%◌, ◌*◌, ◌++◌, ◌+◌, ◌-ℤ◌, ◌-◌, ◌/◌, ◌<◌, ◌^◌, ◌∙◌, ◌∷◌, ◌≡◌, ◌≢◌, ◌≤◌, ◌⊎◌, Bool, List, ap, arith, cond, drop, eqb, false, inl, inr, length, ltb, negsuc, not}
pub use Rattle.std.proofs.Common.{pos, refl, replicate, subst, suc, sym, take, true, zero, ℕ, ℤ}
pub use Rattle.std.proofs.Math.Nat.{add-mod, add-mod-mod, div-eq_of_lt, div-eq_of_lt-le, mod-add-mod, mod-eq_of_lt, mod-mod, mul-mod_left, mul-mod_right, mul_assoc, pow-le-pow_right}
pub use Rattle.std.proofs.lemmas.Nat.{and_mask, mod-mul-add, mod-pow-add, mod_below, pow-add, pow_pos, shr-shr, shr_below, shr_split, xor_lt}
pub use Rattle.std.specs.Prelude.{bit_xor, int_lt}
pub use Rattle.mcy_base.specs.declared.word.Word.{Word}
pub use Rattle.netlist_core.specs.Cells.{all_ones, is_less, laid_at, odd_ones, shifted_down, signed_number, some_one, top_bit}
unfoldable pub use Rattle.netlist_core.specs.Numbers.{low_bits}
pub use Rattle.netlist_core.specs.Numbers.{digit, number}
pub use Rattle.netlist_core.specs.Runs.{input_ports, output_port}
pub use Rattle.netlist_core.specs.Shapes.{HasWidths, shape_of, widths}
pub use Rattle.netlist_core.specs.declared.cell.CellKind.TheVariants.{Add, And, Mul, Neg, Not, Or, Put, Sub, Xnor, Xor}
pub use Rattle.cell_meaning.specs.Words.{FitWords, HasValue, bits_of, word_bits}
