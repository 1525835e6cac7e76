-- What several files here take from the specs of this crate and from the crates below.
pub use Rattle.std.proofs.Common.{[], ◌&&◌, ◌++◌, ◌<◌, ◌==◌, ◌∙◌, ◌∷◌, ◌≡◌, ◌≤◌, Bool, List, add-one, ap, append_assoc, arith, false, get_or, inl, inr, length, map, max, nat_lt, refl, subst, suc, sym}
pub use Rattle.std.proofs.Common.{take, true, zero, ℕ}
pub use Rattle.std.proofs.lemmas.Bool.Decides.{nat_tests}
pub use Rattle.std.proofs.lemmas.List.{append-nil}
pub use Rattle.std.specs.List.{All, flat_map}
pub use Rattle.std.specs.Prelude.{None, Option, Some, if◌then◌else◌}
pub use Rattle.vlog_meaning.proofs.Blanks.{left_nil, right_nil}
pub use Rattle.vlog_meaning.proofs.Firsts.{least_nil, least_none, lex_later, lex_sooner, number_later, number_sooner}
pub use Rattle.vlog_meaning.proofs.Refusals.{kept, least_empty, passed}
pub use Rattle.vlog_meaning.proofs.Whole.{element_whole}
unfoldable pub use Rattle.vlog_meaning.specs.Answers.{earlier as earlier_fault, least}
pub use Rattle.vlog_meaning.specs.Answers.{least_at, precedes as fault_precedes, rank as cause_rank}
pub use Rattle.vlog_meaning.specs.Operators.{IsSized, joint}
pub use Rattle.vlog_meaning.specs.Scopes.{Names, names_of}
pub use Rattle.vlog_meaning.specs.Senses.{AreWhole, IsContext, IsWhole, all_faults, assigned, own_zeros, sense, senses}
pub use Rattle.vlog_meaning.specs.declared.fault.Cause.TheVariants.{DivideByZero}
pub use Rattle.vlog_meaning.specs.declared.fault.Fault.{Fault}
pub use Rattle.vlog_meaning.specs.declared.shapes.Shape.{Shape}
pub use Rattle.vlog_syntax.specs.declared.expr.Expr.{Expr}
pub use Rattle.vlog_refusals.specs.Cases.{AllWithin, LabelsWithin, common_size, labels_in, widened, zeros_at}
pub use Rattle.vlog_refusals.specs.Expressions.{divisions, wrong}
pub use Rattle.vlog_refusals.specs.declared.precedence.Precedence.{Precedence}
