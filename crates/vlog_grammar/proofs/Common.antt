-- What several files here take from the specs of this crate and from the crates below.
pub use Rattle.std.proofs.Common.{[], ◌&&◌, ◌++◌, ◌+◌, ◌-◌, ◌<◌, ◌||◌, ◌∙◌, ◌∷◌, ◌≡◌, ◌≤◌, ◌⊎◌, Bool, List, None, Option, Some, ap, append_assoc, arith, cond, drop, false, get_or, inl, inr, length}
pub use Rattle.std.proofs.Common.{ltb, not, refl, reverse, rules, subst, suc, sym, take, true, zero, ℕ}
pub use Rattle.std.proofs.Math.Seq.{drop-cons, drop-length, take-length}
pub use Rattle.std.proofs.lemmas.Bool.{and_from, cases_lt, false_from_ne_true, lt-ltb, ltb-true, or_left, or_right}
pub use Rattle.std.proofs.lemmas.List.{append-nil, append_cancel_right, length-drop, length-take-le, reverse-append, take-append-drop}
pub use denote.Enum.Bare.{same_true, sameb, true_same}
pub use Rattle.vlog_syntax.specs.declared.feature.Feature.{Feature}
unfoldable pub use Rattle.vlog_grammar.specs.Choice.{choice}
unfoldable pub use Rattle.vlog_grammar.specs.Grammar.{is_avoided, production}
pub use Rattle.vlog_grammar.specs.Grammar.{kind_of, parts_of}
pub use Rattle.vlog_grammar.specs.Look.{all_below, all_safe, can_begin, can_come, can_vanish, is_finish, is_first, is_follow, is_plain, is_safe, is_same, rest_of, work_of}
pub use Rattle.vlog_grammar.specs.Machine.{AllFollowed, Expands, ExpandsTo, IsAsked, IsFollowed, Narrows, Reaches, Rest, Text, Widens, with_asked}
unfoldable pub use Rattle.vlog_grammar.specs.Reading.{first_of, named}
pub use Rattle.vlog_grammar.specs.Reading.{AreAlikeFor, AreStepsOf, AreStepsSoFar, AreTreesOf, BeginText, IsReading, IsRefused, IsRefusedAt, IsStop, IsStopAt, IsText, IsUnexpected, IsUnexpectedAt}
pub use Rattle.vlog_grammar.specs.Reading.{NoneGoesOn, none_refused, start, steps_for, taken}
unfoldable pub use Rattle.vlog_grammar.specs.Sets.{cheapest_of, firsts, follows, height_of, is_null, rank_of}
pub use Rattle.vlog_grammar.specs.Trees.{Derives, Fits, Leaf, Nil, Node, Trees, next_of, refusals_of, steps_of, tokens_of}
pub use Rattle.vlog_grammar.specs.contracts.class.Class.{the_type, the_type as class_type}
pub use Rattle.vlog_grammar.specs.declared.class.Class.{Class}
pub use Rattle.vlog_grammar.specs.declared.class.Class.TheVariants.{Finish}
pub use Rattle.vlog_grammar.specs.declared.rule.Kind.{Kind}
pub use Rattle.vlog_grammar.specs.declared.rule.Rule.{Rule}
pub use Rattle.vlog_grammar.specs.declared.step.Step.{Step}
pub use Rattle.vlog_grammar.specs.declared.step.Step.TheVariants.{Begin, Take}
pub use Rattle.vlog_grammar.specs.declared.step.Token.{Token}
pub use Rattle.vlog_grammar.specs.declared.stop.Stop.{Stop}
pub use Rattle.vlog_grammar.specs.declared.stop.Stop.TheVariants.{Unexpected, Unsupported}
pub use Rattle.vlog_grammar.specs.declared.table.Symbol.{Symbol}
pub use Rattle.vlog_grammar.specs.declared.table.Symbol.TheVariants.{Is, Of, Refused}
