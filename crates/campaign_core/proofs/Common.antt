-- What several files here take from the specs of this crate and from the crates below.
pub use Rattle.std.proofs.Common.{[], ◌&&◌, ◌*◌, ◌++◌, ◌+◌, ◌-◌, ◌/◌, ◌<◌, ◌||◌, ◌∙◌, ◌∷◌, ◌≡◌, ◌≢◌, ◌≤◌, Bool, Err, IsTrue, List, None, Ok, Option, Result, Some, ap, append_assoc, ap₂, arith, cond}
pub use Rattle.std.proofs.Common.{eqb, false, get_or, inl, inr, length, length-append, map, refl, replicate, rules, set, slice_get, subst, suc, sym, true, true≢false, zero, ℕ}
pub use Rattle.std.proofs.Math.Nat.{mul-le-mul_left}
pub use Rattle.std.proofs.lemmas.Bool.{and_parts, eqb-false, eqb-true, le-ltb}
pub use Rattle.std.proofs.lemmas.Bool.Decides.{Decides-ltb, eqb_tells}
pub use Rattle.std.proofs.lemmas.List.{append-nil, length-map}
pub use Rattle.std.proofs.lemmas.List.Sums.{sum_by-cons}
pub use Rattle.std.proofs.lemmas.Option.{get_or_from_slice_get, same_Some, slice_get-get_or, slice_get-map}
pub use Rattle.std.proofs.lemmas.Result.{err_from_is_err_and}
pub use Rattle.std.specs.List.{Any, position_from}
pub use Rattle.std.specs.Option.{option_eq, option_or}
pub use Rattle.std.specs.Prelude.{⊤, ◌==◌, ◌↔◌, ◌⊎◌, IfSome, IsSomeAnd, MatchOption, OnErr, OnOk, is_some, max, nat_lt, option_and_then, option_map, slice_index, sum, unwrap_or}
pub use Rattle.mcy_keeper.specs.Books.{AreNumbered, IsNext, IsSecond, Keeps, LeavesEither, LeavesNothingNew, TellsStill, with_entry}
pub use Rattle.mcy_keeper.specs.declared.book.Book.{Book}
pub use Rattle.mcy_keeper.specs.declared.book.Entry.{Entry}
pub use Rattle.result_book.proofs.Counting.{few_rows, sum_most}
pub use Rattle.result_book.proofs.Each.{each_at, each_from-same, each_set, length-each_from}
pub use Rattle.result_book.proofs.Pairs.{bound_some, new_pair, none_or, not_both}
pub use Rattle.result_book.proofs.Rounding.{below as below_or_not}
pub use Rattle.result_book.proofs.Wanting.{want_follows, wanted-other}
pub use Rattle.result_book.proofs.Words.{word_at-words_of, word_in-other, word_in-same}
pub use Rattle.result_book.specs.Campaigns.{IsFit, IsWordOf, first_bound, is_sim}
pub use Rattle.result_book.specs.Goals.{IsGoal, is_given_up, is_in, is_open, next_bound, open_test, want_of, wanted, wanted_by}
pub use Rattle.result_book.specs.Rows.{AreRows, IsGivenUp, IsPair, IsRow, MayFollow, answer_of, answers_of, bound_in, bounds_on}
pub use Rattle.result_book.specs.Scripts.{asked_on, each_from, word_code, word_in, words_of}
pub use Rattle.result_book.specs.States.{IsStateOf, Progress}
pub use Rattle.result_book.specs.declared.campaign.Campaign.{Campaign}
pub use Rattle.result_book.specs.declared.goal.Goal.{Goal}
pub use Rattle.result_book.specs.declared.goal.Want.{Want}
pub use Rattle.campaign_core.specs.Ahead.{events_by, events_left, greatest, mutation_events, slot_of, test_events, test_turns}
pub use Rattle.campaign_core.specs.Events.{Committed, HasWord, IsAllowed, IsGoing, IsRowOf, IsUnchanged, MayStart, Started, Takes, Turned, asked_and_word, slot_after}
pub use Rattle.campaign_core.specs.Keeping.{AddsRow, AddsRowBy, AreTold, TouchesNone, steps_of}
pub use Rattle.campaign_core.specs.Kept.{IsKept, all_left, mutation_left, rows_left, test_left}
pub use Rattle.campaign_core.specs.Laws.{AreGiven, Came, Course, Kept, Program, asked_in}
pub use Rattle.campaign_core.specs.Orders.{WantsNone, first_given, given_at, least_waiting, next_event, next_start, slot_gives, start_of}
pub use Rattle.campaign_core.specs.Running.{Broke, HasFree, IsWithin, LeavesNext, Ran, Reached, Torn, book_of}
pub use Rattle.campaign_core.specs.Seats.{AreJobs, IsJobOf, asked_of, busy_of, left_of, seen, word_of}
pub use Rattle.campaign_core.specs.Stages.{answered_at, answered_by, by_word, raw_stage, stage_of}
pub use Rattle.campaign_core.specs.Testers.{Asked, GivesTheSame, IsAskable, IsSame, IsWordIn}
pub use Rattle.campaign_core.specs.Turns.{Busy, IsFree, IsIn, Turns, all_wanted, busy_count, is_in_slot, is_of, waiting, waits_for}
pub use Rattle.campaign_core.specs.UnderWay.{AreApart, IsBusy, IsUnderWay, begun, room_for}
pub use Rattle.campaign_core.specs.Waits.{AreLeads, IsLead, NoneWaits, block_size, want_at}
pub use Rattle.campaign_core.specs.declared.event.CoreError.{CoreError}
pub use Rattle.campaign_core.specs.declared.event.Event.{Event}
pub use Rattle.campaign_core.specs.declared.event.Event.TheVariants.{Commit, Start, Stop, Turn}
pub use Rattle.campaign_core.specs.declared.seat.Answered.{Answered}
pub use Rattle.campaign_core.specs.declared.seat.Seat.{Seat}
pub use Rattle.campaign_core.specs.declared.seat.Work.{Work}
pub use Rattle.campaign_core.specs.declared.seat.Work.TheVariants.{Going, Going as Running, Told as Ended}
