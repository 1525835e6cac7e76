-- What several files here take from the specs of this crate and from the crates below.
pub use Rattle.std.proofs.Common.{[], ◌%◌, ◌&&◌, ◌*◌, ◌++◌, ◌+◌, ◌-◌, ◌/◌, ◌<◌, ◌==◌, ◌^◌, ◌↔◌, ◌∙◌, ◌∷◌, ◌≡◌, ◌≢◌, ◌≤◌, Bool, Decides, List, None, Option, Some, ap, append_assoc, arith, bytes_eq}
pub use Rattle.std.proofs.Common.{cond, count_by, decimal, drop, false, get_or, if◌then◌else◌, inl, inr, length, length-append, length-drop, map, nat_lt, not, refl, replicate, set, slice_get, subst}
pub use Rattle.std.proofs.Common.{suc, sum, sym, take, true, zero, ℕ}
pub use Rattle.std.proofs.lemmas.Bool.{and_parts, false≢true, le-ltb, leb-true, lt-ltb, ltb-false, ltb-true}
pub use Rattle.std.proofs.lemmas.Bool.Decides.{Decides-eqb, eqb_tells, same_from_decides}
pub use Rattle.std.proofs.lemmas.List.{append-nil, drop-append-le, length-map, take_all, take_more, take_more_same}
pub use Rattle.std.proofs.lemmas.List.Elements.{All-cons, All-nil}
pub use Rattle.std.proofs.lemmas.List.Folds.{list_all-append, sum_by-replicate}
pub use Rattle.std.proofs.lemmas.List.Sums.{count_by-le-length, sum_by-cons, sum_by-set}
pub use Rattle.std.proofs.lemmas.Option.{get_or_from_slice_get, same_Some, slice_get-get_or, slice_get_past, slice_get_read, slice_get_within, unwrap_or-slice_get}
pub use Rattle.std.proofs.lemmas.Slice.Eq.{bytes_eq-Decides}
pub use Rattle.std.specs.List.{All, Any, list_all}
pub use Rattle.std.specs.Option.{is_some, option_or}
pub use Rattle.std.specs.Prelude.{◌⊎◌, IsSomeAnd, IsTrue, filter, find, is_none, nat_le, option_map, slice_index, slice_index_or, unwrap_or}
pub use Rattle.mcy_keeper.specs.Books.{AreNumbered, IsFirst, IsNext, IsSecond, begins_with, first_number, in_second, is_first, second_number, upgraded, with_bounds, with_entry}
pub use Rattle.mcy_keeper.specs.declared.book.Book.{Book}
pub use Rattle.mcy_keeper.specs.declared.book.Entry.{Entry}
pub use Rattle.tag_script.proofs.Below.{AreBelow, asked_below, script_needs}
pub use Rattle.tag_script.proofs.Telling.{told_heard}
pub use Rattle.tag_script.specs.Courses.{Course, course_of, ended, failed, reads}
unfoldable pub use Rattle.tag_script.specs.Outcomes.{outcome_of, script_outcome, told}
pub use Rattle.tag_script.specs.Outcomes.{AreAmong, End, Outcome, asking, assert_failed, done, first_told, is_expected, unexpected, word_at}
pub use Rattle.tag_script.specs.declared.answer.Ask.{Ask}
pub use Rattle.tag_script.specs.declared.answer.Ask.TheVariants.{AssertFailed, Done, Need, Unexpected}
pub use Rattle.result_book.specs.BookFaults.{DifferFirst, HasNone, HasOne, IsAnswered, IsAsked, IsAskedOn, IsBoundFault, IsFirstFault, IsMarked, IsOnce, IsPlaced, IsRefused, IsRowFault, IsTwice}
pub use Rattle.result_book.specs.BookFaults.{derived_bound}
pub use Rattle.result_book.specs.Campaigns.{IsFit, IsProofWord, IsSimWord, IsWordOf, IsWordOfKind, first_bound, is_sim_test}
pub use Rattle.result_book.specs.Goals.{IsGoal, first_unnamed, is_given_up, is_in, is_open, next_bound, open_test, want_of, wanted, wanted_by}
pub use Rattle.result_book.specs.Reads.{answer_known, answer_needed, next_read}
pub use Rattle.result_book.specs.Rounds.{is_limit, is_round, max_limit}
unfoldable pub use Rattle.result_book.specs.Rows.{bounds_on}
pub use Rattle.result_book.specs.Rows.{AreRows, AreRowsIn, IsFinished, IsGivenUp, IsNew, IsPair, IsRow, IsRowIn, IsWellFormed, MayFollow, MayStand, answer_of, answers_of, ask_on, bound_in, bound_of}
pub use Rattle.result_book.specs.Rows.{bounds_of, history, is_pair, meta_in_second, read_on, second_row}
unfoldable pub use Rattle.result_book.specs.Scripts.{ask_by, asked_on, words_of}
pub use Rattle.result_book.specs.Scripts.{Answer, IsRead, ask, each_from, filled, is_ended, known_first, known_of, mark_of, read_answers, tags_of, word_code, word_in}
pub use Rattle.result_book.specs.States.{IsStateOf, Progress}
pub use Rattle.result_book.specs.Wants.{kept_word, kept_words, without_one}
pub use Rattle.result_book.specs.declared.campaign.Campaign.{Campaign}
pub use Rattle.result_book.specs.declared.check.RowFault.TheVariants.{BadWord, Bound, Mark, NoMutation, NoTest, NotAsked, Seq, Tags, Twice}
pub use Rattle.result_book.specs.declared.script.TestWord.TheVariants.{Unknown}
