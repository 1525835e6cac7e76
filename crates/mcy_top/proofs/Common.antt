-- What several files here take from the specs of this crate and from the crates below.
pub use Rattle.std.proofs.Common.{[], ◌%◌, ◌&&◌, ◌++◌, ◌+◌, ◌<◌, ◌==◌, ◌^◌, ◌∙◌, ◌∷◌, ◌≡◌, ◌≢◌, ◌≤◌, ◌⊎◌, Bool, Err, IsErrOf, IsSomeAnd, List, MatchBool, None, Ok, OnErr, OnOk, Option, Result, Some}
pub use Rattle.std.proofs.Common.{ap, append_assoc, arith, drop, false, if◌then◌else◌, inl, inr, length, length-append, map, not, refl, rules, slice_get, string_bytes, subst, suc, sym, take, true}
pub use Rattle.std.proofs.Common.{zero, ℕ}
pub use Rattle.std.proofs.lemmas.Bool.Decides.{eqb_tells, leb_tells}
pub use Rattle.std.proofs.lemmas.List.{append-nil, length-map, length-replicate, map-append}
pub use Rattle.std.proofs.lemmas.List.Elements.{All-cons, All-nil, All-weaker, Contains-append_left, Contains-push, Contains-push_cases}
pub use Rattle.std.proofs.lemmas.List.Kept.{AllPairs-cons}
pub use Rattle.std.proofs.lemmas.Option.{slice_get_past, slice_get_within}
pub use Rattle.std.proofs.lemmas.Result.{IfErr-weaker, IfOk-weaker, err_from_is_err_and, on_ok_weaker}
pub use Rattle.std.specs.List.{All, AllPairs, Any, Contains}
pub use Rattle.std.specs.Option.{option_or}
pub use Rattle.std.specs.Prelude.{⊤, ◌↔◌, IfErr, IsTrue, MatchOption, is_some, option_map, slice_index, slice_set, unwrap_or}
pub use Rattle.campaign_baseline.proofs.Limiting.{limit_once, lists_once, plain_limit}
pub use Rattle.campaign_baseline.specs.Laws.{BaselinesAreOne}
pub use Rattle.campaign_baseline.specs.Lines.{baseline_text, failing_text}
pub use Rattle.campaign_core.specs.Laws.{Program}
pub use Rattle.campaign_core.specs.Orders.{WantsNone as NoneWanted, next_event}
pub use Rattle.campaign_core.specs.Running.{HasFree, IsWithin as IsWithinRows, LeavesNext as CoreLeaves, Ran as CoreRan, Reached as ReachedRows, Torn as CoreTorn, book_of as core_book}
pub use Rattle.campaign_core.specs.Testers.{Asked, GivesTheSame}
pub use Rattle.campaign_core.specs.Turns.{Busy, IsIn, Turns, busy_count}
pub use Rattle.campaign_core.specs.UnderWay.{AreApart, IsBusy, IsUnderWay, begun}
pub use Rattle.campaign_core.specs.declared.event.Event.{Event}
pub use Rattle.campaign_core.specs.declared.event.Event.TheVariants.{Commit, Start, Stop, Turn}
pub use Rattle.campaign_outcomes.specs.declared.outcome.Outcome.{Outcome}
pub use Rattle.campaign_outcomes.specs.declared.outcome.Outcome.TheVariants.{AlreadyBegun, BaselineBad, BookBad, Done, KeeperFault, Memory, Missing, NoCampaign, NoMutation, ProjectBad, ReadFault}
pub use Rattle.campaign_outcomes.specs.declared.outcome.Outcome.TheVariants.{RequirementMissed, ScriptBad, SourceBad, TooLarge, Unfinished, Usage, WriteFault}
pub use Rattle.campaign_plan.proofs.OneCampaign.{plan_once}
pub use Rattle.campaign_plan.proofs.Plans.{plan_fit, plan_items, plan_kind, plan_meta}
pub use Rattle.campaign_plan.specs.Campaigns.{IsPlan}
pub use Rattle.campaign_plan.specs.Laws.{AreAlike, IsSame, SameTests}
pub use Rattle.campaign_plan.specs.declared.prepared.Prepared.{Prepared}
pub use Rattle.campaign_plan.specs.declared.trial.Trial.{Trial}
pub use Rattle.campaign_plan.specs.declared.trial.Trial.TheVariants.{Equality, Simulation}
pub use Rattle.campaign_reading.specs.Files.{IsMade}
pub use Rattle.campaign_reading.specs.Laws.{IsByFiles}
pub use Rattle.campaign_reading.specs.Reads.{IsUnmade}
pub use Rattle.campaign_reading.specs.declared.refusal.Refusal.{Refusal}
pub use Rattle.campaign_reading.specs.declared.refusal.Refusal.TheVariants.{Memory as NoMemoryThere, Memory as RefusedMemory, Missing as RefusedMissing, ProjectBad as RefusedProject}
pub use Rattle.campaign_reading.specs.declared.refusal.Refusal.TheVariants.{ReadFault as RefusedRead, ScriptBad as RefusedScript, SourceBad as RefusedSource, TooLarge as RefusedTooLarge}
pub use Rattle.campaign_run.proofs.Crashes.{either_books, only_books, weaker_books}
pub use Rattle.campaign_run.proofs.Growing.{book_form, book_second, form_more, length_more, next_row_of, ran_more, ran_none, right_more}
pub use Rattle.campaign_run.specs.Baselines.{AllPass, IsBaseline}
pub use Rattle.campaign_run.specs.Changes.{Course, IsChange, IsNear, Upgraded, opened}
pub use Rattle.campaign_run.specs.Crashes.{LeavesBooks}
pub use Rattle.campaign_run.specs.Limits.{FailsBaselines, HasBaselines, HasItsLimit, IsLimitOf, baseline_limit}
pub use Rattle.campaign_run.specs.Rows.{AreRight, GoesOn, IsBlankOrGood, IsGivenUpAt, IsGood, IsNextRow, IsPrefix, IsRightWord, IsSaid, IsTrueWord, IsTrueWordAt, IsUpgrade, IsWithinOne, Stands}
pub use Rattle.campaign_run.specs.Running.{AreWanted, Broke, IsWanted, IsWithin, LeavesNext, Ran, Reached, WantsNone, book_of}
pub use Rattle.campaign_run.specs.Simulated.{IsSimulated, told_verdict}
pub use Rattle.command_words.proofs.Limits.{cells_are_few, jobs_are_few, retry_is_limit}
pub use Rattle.command_words.specs.Commands.{asked_of, command_of, mutations_of}
pub use Rattle.command_words.specs.declared.command.Command.{Command}
pub use Rattle.command_words.specs.declared.command.Command.TheVariants.{Baseline, Demo, Init, List as Listing, Run, Source, Status}
pub use Rattle.made_campaign.specs.Made.{IsOfTexts, made_held, made_limit}
pub use Rattle.made_project.specs.Summaries.{summary_text}
pub use Rattle.mcy_base.specs.Causes.{Rose}
pub use Rattle.mcy_keeper.specs.Books.{IsBlank, IsFirst, IsSecond, Keeps, LeavesEither, LeavesNothingNew, LeavesOnly, LeavesSome, begins_with, blank, first_number, in_second, is_first, upgraded}
pub use Rattle.mcy_keeper.specs.Books.{with_bounds, with_entry}
pub use Rattle.mcy_keeper.specs.declared.book.Book.{Book}
pub use Rattle.mcy_keeper.specs.declared.book.Entry.{Entry}
pub use Rattle.mcy_keeper.specs.declared.keeper.KeepError.{KeepError}
pub use Rattle.mcy_keeper.specs.declared.keeper.KeepError.TheVariants.{Fault as KeepFault, Memory as KeepMemory}
pub use Rattle.mcy_outside.specs.Files.{Held}
pub use Rattle.mcy_outside.specs.Written.{Appends}
pub use Rattle.mutation_sites.specs.declared.site.Site.{Site}
pub use Rattle.project_tester.specs.ProjectJobs.{may_give, most_of}
pub use Rattle.result_book.proofs.Formats.{has_history, history_meta, history_mutations, history_rows, second_is_not_first, seconds, seconds_answers}
pub use Rattle.result_book.proofs.Growing.{rows_first, rows_more}
pub use Rattle.result_book.proofs.Pairs.{not_both}
pub use Rattle.result_book.proofs.Reading.{read_asks, read_next}
pub use Rattle.result_book.proofs.Wanting.{unwanted_ended, want_follows, wanted_at, wanted_in}
pub use Rattle.result_book.proofs.Words.{length-words_of, word_at-words_of, word_in-other, word_in-same}
pub use Rattle.result_book.specs.Campaigns.{IsFit, first_bound, is_sim_test}
pub use Rattle.result_book.specs.Goals.{IsGoal, first_unnamed, is_in, is_open, next_bound, open_test, wanted, wanted_by}
pub use Rattle.result_book.specs.Rows.{AreRows, AreRowsIn, IsFinished, IsGivenUp, IsNew, IsPair, IsRow, IsRowIn, IsWellFormed, MayFollow, answer_of, answers_of, ask_on, bound_in, bound_of, bounds_of}
pub use Rattle.result_book.specs.Rows.{bounds_on, groups, groups_from, history, meta_in_second, read_on, second_row, upgrade_of}
pub use Rattle.result_book.specs.Scripts.{ask, asked_on, each_from, is_ended, known_first, known_of, mark_of, read_answers, tags_of, word_code, word_in, words_of}
pub use Rattle.result_book.specs.States.{IsStateOf, Progress}
pub use Rattle.result_book.specs.declared.answer.Answer.{Answer}
pub use Rattle.result_book.specs.declared.campaign.Campaign.{Campaign}
pub use Rattle.result_book.specs.declared.check.BookError.{BookError}
pub use Rattle.result_book.specs.declared.check.BookError.TheVariants.{Memory as NoBookMemory, Memory as NoMemoryFor, Meta, Mutation, Row, Stray}
pub use Rattle.result_book.specs.declared.goal.Goal.{Goal}
pub use Rattle.result_book.specs.declared.goal.Want.{Want}
pub use Rattle.source_report.specs.Texts.{lines, status_text}
pub use Rattle.tag_script.specs.Outcomes.{word_at}
pub use Rattle.tag_script.specs.declared.answer.Ask.{Ask}
pub use Rattle.tag_script.specs.declared.answer.Ask.TheVariants.{Need}
pub use Rattle.tb_bench.specs.declared.parts.Parts.{Parts}
pub use Rattle.mcy_top.specs.Baselines.{IsFailingText, TellsBaselines, ToldBaselines, baseline_outcome, baselines_text}
pub use Rattle.mcy_top.specs.BookRefusals.{HasNamed, IsBookBad, RefusesBook}
pub use Rattle.mcy_top.specs.Commands.{AimsAtAll, AsksBaseline, AsksDemo, AsksNoDemo, HasSlots, IsAside, OnBook, OnlyReads, Runs, aim_of, goal_of, retry_of, run_goal, slots_of, stop_of}
pub use Rattle.mcy_top.specs.Defined.{AreAllAnswers, AreAnswers, IsFinalText, IsWordOf, Pair, given_up, has_pair, is_equality, is_given_up}
pub use Rattle.mcy_top.specs.Endings.{Delivers, Ends, HasLateCause, broken_outcome, done_outcome, ended_outcome, failed_outcome, run_outcome}
pub use Rattle.mcy_top.specs.Exact.{IsCutShort, RefusesFiles, RefusesFor}
pub use Rattle.mcy_top.specs.Life.{Answered, Answers, AreEnded, Carried, Commands, DidAll, EndsEarly, GainsWanted, Grew, HasCause, IsAccepted, IsCounted, IsDone, IsQuiet, Life, StartsFew, Takes}
pub use Rattle.mcy_top.specs.Life.{Unloaded, Work, Wrote, wanting, wanting_from}
pub use Rattle.mcy_top.specs.LimitedWork.{WorkUnder}
pub use Rattle.mcy_top.specs.Limits.{IsLimitFor, IsUnfit, Opens}
pub use Rattle.mcy_top.specs.Lives.{AreSafe, HasFinalTexts, IsAgain, IsHistory, IsStart, Lived, RunsOnce, books_of}
pub use Rattle.mcy_top.specs.Outcomes.{book_outcome, outcome_of}
pub use Rattle.mcy_top.specs.ProgramOrder.{IsInOrder}
pub use Rattle.mcy_top.specs.Requirements.{falls_short, misses, misses_on}
pub use Rattle.mcy_top.specs.Shown.{GivesNoneUp, IsMadeOf, IsSummary, RanPart, RanWhole, Shown, tests_in}
pub use Rattle.mcy_top.specs.Texts.{answers_text, init_text, text_of}
pub use Rattle.mcy_top.specs.declared.ending.Ending.{Ending}
pub use Rattle.mcy_top.specs.declared.ending.Ending.TheVariants.{NoMemory, Refused, Written}
pub use Rattle.mcy_top.specs.declared.refusal.BookRefusal.{BookRefusal}
pub use Rattle.mcy_top.specs.declared.refusal.BookRefusal.TheVariants.{AlreadyBegun as RefusedBegun, BookBad as RefusedBook, NoCampaign as RefusedNone, NoMutation as RefusedMutation}
