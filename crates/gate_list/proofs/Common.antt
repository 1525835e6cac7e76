-- What several files here take from the specs of this crate and from the crates below.
pub use Rattle.std.proofs.Common.{[], ◌&&◌, ◌++◌, ◌+◌, ◌<◌, ◌^◌, ◌∙◌, ◌∷◌, ◌≡◌, ◌≢◌, ◌≤◌, ◌⊎◌, Bool, List, ap, arith, eqb, false, get_or, if◌then◌else◌, inl, inr, int_eq, length, nat_le, neg_ℤ}
pub use Rattle.std.proofs.Common.{negsuc, not, pos, refl, subst, suc, sym, true, true≢false, zero, ℕ, ℤ}
pub use Rattle.std.proofs.lemmas.List.{append-nil, length-append}
pub use Rattle.std.proofs.lemmas.Result.{IfOk-weaker}
pub use Rattle.std.specs.Cmp.{signed_Decides}
pub use Rattle.std.specs.List.{list_any, position_or_len, prefix_len}
pub use Rattle.clause_store.specs.Clauses.{Values, value, variable}
pub use Rattle.gate_list.specs.Folding.{Made, and_of, differ_in_sign, mux_at, mux_of, negated, negated_if, or_of, same_gate, same_lit, with_gate, xor_gate, xor_of}
pub use Rattle.gate_list.specs.Gates.{Adds, AreOrdered, Gates, HoldFrom, IsLit, IsLiteral, Reads, count, gate_value, lit_value}
pub use Rattle.gate_list.specs.contracts.gate.GatePartialEq.TheImpl.{eq-value}
pub use Rattle.gate_list.specs.declared.gate.Gate.{Gate}
pub use Rattle.gate_list.specs.declared.gate.Gate.TheVariants.{And, Mux, Xor}
pub use Rattle.gate_list.specs.declared.literal.GateLit.{GateLit}
