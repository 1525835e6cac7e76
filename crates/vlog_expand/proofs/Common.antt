-- What several files here take from the specs of this crate and from the crates below.
pub use Rattle.std.proofs.Common.{[], ◌&&◌, ◌++◌, ◌-◌, ◌<◌, ◌==◌, ◌∙◌, ◌∷◌, ◌≡◌, ◌≢◌, ◌≤◌, ◌⊎◌, Bool, Bor, List, None, Option, Some, ap, append_assoc, arith, cond, drop, drop-cons, false, get_or, inl}
pub use Rattle.std.proofs.Common.{inr, length, not, option_map, refl, rules, sub-one, subst, suc, sym, take, true, zero, ℕ}
pub use Rattle.std.proofs.lemmas.List.{append-nil, drop_all, length-append, length-take}
pub use Rattle.std.proofs.lemmas.Result.{err_from_is_err_and}
pub use Rattle.mcy_base.specs.declared.span.Span.{Span}
pub use Rattle.vlog_token.specs.declared.token.Token.{Token}
unfoldable pub use Rattle.vlog_expand.specs.Conditions.{after_part, is_closed}
pub use Rattle.vlog_expand.specs.Conditions.{after_part_from, belongs, is_closed_from}
unfoldable pub use Rattle.vlog_expand.specs.Definitions.{definitions_of, no_macros, with_text}
pub use Rattle.vlog_expand.specs.Definitions.{Definitions}
unfoldable pub use Rattle.vlog_expand.specs.Files.{turn}
pub use Rattle.vlog_expand.specs.Files.{Comes, ComesBehind, Ends, IsRefused, Leads, LeadsOn, Shows, Turn, ends, passes, refuses, shows, stops, turn_at}
pub use Rattle.vlog_expand.specs.Laws.{ConditionsHaveTheirEnds, FilesComeToOneOutcome, IsReached, behind_directive, behind_token, here}
pub use Rattle.vlog_expand.specs.Lines.{behind_line, is_on, rest_of_line}
pub use Rattle.vlog_expand.specs.Moves.{IsStop, Move, Passes, State, Stops, behind_else, behind_else_by, chosen_part, condition_move, define_move, else_move, endif_move, fault_in, has_parameters}
pub use Rattle.vlog_expand.specs.Moves.{innermost, is_first, move_by, other_part, other_part_by, outer, state_of, undef_move, unless_fault, with_name}
unfoldable pub use Rattle.vlog_expand.specs.Uses.{expanded}
pub use Rattle.vlog_expand.specs.Uses.{Gives, IsRefusal, Outcome, Refuses, behind, followed, in_order, token_given, use_replaced}
unfoldable pub use Rattle.vlog_expand.specs.Words.{word_of}
pub use Rattle.vlog_expand.specs.Words.{is_directive, is_macro_name, is_name, is_shown, is_use, name_of}
pub use Rattle.vlog_expand.specs.declared.error.ParseError.{ParseError}
pub use Rattle.vlog_expand.specs.declared.error.ParseError.TheVariants.{TooMany, Unexpected, UnknownMacro, Unsupported}
