-- What several files here take from the specs of this crate and from the crates below.
pub use Rattle.std.proofs.Common.{[], ◌&&◌, ◌*◌, ◌++◌, ◌+◌, ◌<◌, ◌^◌, ◌||◌, ◌↔◌, ◌∙◌, ◌∷◌, ◌≡◌, ◌≢◌, ◌≤◌, ◌⊎◌, All, Bool, FitsSigned, List, None, Option, Some, ap, arith, eqb, false, get_or}
pub use Rattle.std.proofs.Common.{if◌then◌else◌, inl, inr, length, neg_ℤ, negsuc, not, option_map, pos, refl, rules, subst, suc, sum_by, sym, take, true, true≢false, w32, zero, ℕ, ℤ}
pub use Rattle.std.proofs.lemmas.Int.{to_z-of_z}
pub use Rattle.std.proofs.lemmas.List.{append-nil, append_assoc, length-append, length-take, take_more}
pub use Rattle.std.proofs.lemmas.List.Sums.{AllPass-from_list_all, list_all-from_AllPass, sum_by-append}
pub use Rattle.clause_store.specs.Clauses.{AreOver, IsModel, Values, value, variable}
pub use Rattle.gate_list.proofs.Adding.{literal-neg, value-neg}
pub use Rattle.gate_list.specs.Gates.{AreOrdered, Gates, Hold, HoldFrom, IsLit, IsLiteral, Reads, count, gate_value}
pub use Rattle.gate_list.specs.declared.gate.Gate.{Gate}
pub use Rattle.gate_list.specs.declared.gate.Gate.TheVariants.{And, Mux, Xor}
pub use Rattle.gate_list.specs.declared.literal.GateLit.{GateLit}
pub use Rattle.gate_list.specs.declared.literal.GateLit.TheVariants.{Fixed, Var}
pub use Rattle.gate_clauses.specs.Encoding.{IsSome, clauses_from, gate_clauses, has_one, miter_clauses, one_true, open_lits}
