-- What several files here take from the specs of this crate and from the crates below.
pub use Rattle.std.proofs.Common.{[], ◌++◌, ◌+◌, ◌-◌, ◌<◌, ◌||◌, ◌∙◌, ◌∷◌, ◌≡◌, ◌≢◌, ◌≤◌, ◌⊎◌, Bool, Err, List, None, Ok, Option, Result, Some, ap, arith, cond, drop, false, get_or, if◌then◌else◌}
pub use Rattle.std.proofs.Common.{inl, inr, is_some, length, map, nat_eq, negsuc, not, option_map, pos, refl, replicate, rules, set, slice_get, subst, suc, sym, take, true, vec_len, zero, ℕ, ℤ}
pub use Rattle.std.proofs.Math.Seq.{map-set_same}
pub use Rattle.std.proofs.lemmas.Bool.Decides.{Decides-eqb, eqb_tells, nat_tests}
pub use Rattle.std.proofs.lemmas.Int.{to_z-of_z}
pub use Rattle.std.proofs.lemmas.List.{append-nil, append_assoc, drop-append-le, ext_get_or, get_or-drop, get_or-map, get_or-replicate, get_or-set_other, get_or-set_same, get_or_append_left}
pub use Rattle.std.proofs.lemmas.List.{get_or_push, length-drop, length-map, length-replicate, length-set, length-take-le, length_push, map-set, nil_from_length, same_from_push, take-append-drop}
pub use Rattle.std.proofs.lemmas.List.{take-append-le, take_all, take_more}
pub use Rattle.std.proofs.lemmas.List.Elements.{All-append, All-cons, All-contains, All-from_get_or, All-head, All-more, All-nil, All-push, All-tail, All-weaker, Contains-append_left}
pub use Rattle.std.proofs.lemmas.List.Elements.{Contains-append_right, Contains-get_or, Contains-push, Contains-push_cases, filter-append, filter_more}
pub use Rattle.std.proofs.lemmas.Option.{slice_get-get_or, slice_get_within}
pub use Rattle.std.specs.Int.{w32}
pub use Rattle.std.specs.Option.{option_to_list}
pub use Rattle.std.specs.Prelude.{All, Contains, FitsSigned, IfErr, IfSome, IsTrue, OnErr, OnOk}
pub use Rattle.clause_store.specs.Clauses.{AreOver, IsModel, Satisfies, Values, value, variable}
pub use Rattle.clause_store.specs.Propagation.{EndsInConflict, FollowsBy, IsFalsified, IsUnit, Known, Propagates, clause_at, is_positive, is_some_false, left, literal, none, with_false, with_true}
pub use Rattle.clause_store.specs.Propagation.{with_value}
pub use Rattle.lrat_checker.specs.Guards.{AreGuarded, IsGuarded, list_at, lists_of, moved, place_of}
pub use Rattle.lrat_checker.specs.LegalLogs.{AreFree, EndsEmpty, GoesOnBy, IsLegalAfter, IsLegalLog, IsNew, IsWithin, Log, is_named}
pub use Rattle.lrat_checker.specs.Refusals.{IsBadLiteral, IsContained, IsFit, IsRefused, Reaches}
pub use Rattle.lrat_checker.specs.Steps.{IsFalse, IsFirstFalsified, IsFollowing}
pub use Rattle.lrat_checker.specs.Tables.{AreListed, known_of}
pub use Rattle.lrat_checker.specs.declared.refusal.CheckError.{CheckError}
