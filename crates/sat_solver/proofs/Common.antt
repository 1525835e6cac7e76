-- What several files here take from the specs of this crate and from the crates below.
pub use Rattle.std.proofs.Common.{[], ◌*◌, ◌++◌, ◌+◌, ◌-◌, ◌<◌, ◌^◌, ◌||◌, ◌∙◌, ◌∷◌, ◌≡◌, ◌≢◌, ◌≤◌, ◌⊎◌, Bool, List, None, Option, Some, ap, arith, cond, drop, false, get_or, if◌then◌else◌, inl, inr}
pub use Rattle.std.proofs.Common.{is_some, length, map, nat_abs, nat_eq, neg_ℤ, negsuc, not, of_z, option_map, pos, refl, replicate, reverse, rules, set, subst, suc, sym, take, to_z, true, vec_len}
pub use Rattle.std.proofs.Common.{zero, ℕ, ℤ}
pub use Rattle.std.proofs.lemmas.Bool.Decides.{eqb_tells, leb_tells}
pub use Rattle.std.proofs.lemmas.Int.{to_z-of_z}
pub use Rattle.std.proofs.lemmas.List.{append-nil, append_assoc, get_or-append-add, get_or-replicate, get_or-set_other, get_or-set_same, get_or-take, get_or_append_left, get_or_default, get_or_push}
pub use Rattle.std.proofs.lemmas.List.{get_or_read, length-append, length-map, length-replicate, length-reverse, length-set, length-take-le, length_push, map-append, replicate-append-replicate}
pub use Rattle.std.proofs.lemmas.List.{reverse-append, take-append-le, take-take, take_all, take_at, take_more}
pub use Rattle.std.proofs.lemmas.List.Elements.{All-cons, All-contains, All-head, All-more, All-nil, All-push, All-tail, All-weaker, Contains-append_left, Contains-append_right, Contains-get_or}
pub use Rattle.std.proofs.lemmas.List.Elements.{Contains-push, Contains-push_cases}
pub use Rattle.std.proofs.lemmas.List.Sums.{count_by-le-length, get_or-le-sum_by, length-filter, sum_by-append, sum_by-cons, sum_by-le, sum_by-set, sum_by-take-le, sum_by_more, sum_by_push}
pub use Rattle.std.proofs.lemmas.Option.{slice_get-get_or, slice_get_within}
pub use Rattle.std.specs.Bool.{OnTrue}
pub use Rattle.std.specs.Int.{w32}
pub use Rattle.std.specs.Prelude.{⊤, All, Contains, Err, FitsSigned, IfOk, IfSome, MatchOption, Ok, OnOk, Result, count_by, filter, slice_get, sum_by, swap_remove}
pub use Rattle.clause_store.specs.Clauses.{AreOver, IsModel, Values, value, variable}
pub use Rattle.clause_store.specs.Propagation.{EndsInConflict, IsFalsified, IsQuiet, IsUnit, Known, Propagates, clause_at, is_positive, is_some_false, left, literal, none, with_false, with_true}
pub use Rattle.clause_store.specs.Propagation.{with_value}
pub use Rattle.lrat_checker.proofs.Following.{clause-within, clause_at-place, unit_variable}
pub use Rattle.lrat_checker.proofs.Guarding.{list-at, list-changed}
pub use Rattle.lrat_checker.proofs.Literals.{free-push, named-push}
pub use Rattle.lrat_checker.proofs.Within.{false-from_in, literal-same, with_false-other, within-from_false}
pub use Rattle.lrat_checker.specs.LegalLogs.{AreFree, EndsEmpty, GoesOnBy, IsLegalAfter, IsLegalLog, IsNew, IsWithin, Log, is_named}
pub use Rattle.lrat_checker.specs.Steps.{IsFalse}
pub use Rattle.lrat_checker.specs.Tables.{known_of}
pub use Rattle.sat_solver.specs.Found.{Finds, Hunt, IsContinued, IsEnd, IsRunning, is_some_true, listed_values, values_of}
pub use Rattle.sat_solver.specs.Looks.{HasGuard, HasMoved, IsNext, propagated}
pub use Rattle.sat_solver.specs.Needs.{Derive, IsLearned, IsWalked, NoneNeeded, Serves, is_needed, last_start}
pub use Rattle.sat_solver.specs.Occurrences.{AreCounted, AreHolders, IsAdded, IsSettled, ShowQuiet, is_literal, is_value, list_of, numbered, place_of, times, valued}
pub use Rattle.sat_solver.specs.Parts.{AreNumbers, IsFocus, IsPart, IsProbing, in_use, number_of, picked}
pub use Rattle.sat_solver.specs.Propagators.{AreRaised, CanCount, IsAssigned, IsExamined, IsIndexed, IsKept, IsSteady}
pub use Rattle.sat_solver.specs.Trails.{AreApart, AreReasoned, AreStarts, IsConflict, IsDecided, IsDone, IsGrown, IsOpened, IsReady, IsReason, IsTrail, IsUnchanged, IsUnwound, assigned, literal_at}
pub use Rattle.sat_solver.specs.Trails.{with_all}
pub use Rattle.sat_solver.specs.Watches.{AreDifferent, AreGuarded, AreGuards, AreSettled, AreWatched, IsGuard, IsOther, IsPair, IsSafe, IsWatched, KeepsCounted, StandsFrom, pair_of}
pub use Rattle.sat_solver.specs.declared.counts.Counts.{Counts}
pub use Rattle.sat_solver.specs.declared.probe.Probe.{Probe}
pub use Rattle.sat_solver.specs.declared.propagator.Propagator.{Propagator}
pub use Rattle.sat_solver.specs.declared.trail.Trail.{Trail}
pub use Rattle.sat_solver.specs.declared.watches.Pair.{Pair}
pub use Rattle.sat_solver.specs.declared.watches.Watches.{Watches}
