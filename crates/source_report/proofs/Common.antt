-- What several files here take from the specs of this crate and from the crates below.
pub use Rattle.std.proofs.Common.{[], ◌&&◌, ◌*◌, ◌++◌, ◌+◌, ◌-◌, ◌<◌, ◌==◌, ◌^◌, ◌∙◌, ◌∷◌, ◌≡◌, ◌≢◌, ◌≤◌, ◌⊎◌, Bool, Bor, Global, IfNone, IfSome, List, MatchOption, None, Option, Some, Vec, ap}
pub use Rattle.std.proofs.Common.{append-nil, append_assoc, arith, codes, cond, count_by, decimal, drop, eqb, false, get_or, if◌then◌else◌, inl, inr, length, length-append, map, refl, replicate}
pub use Rattle.std.proofs.Common.{rules, set, slice_get, slice_index, string_bytes, subst, suc, sym, take, tests, true, zero, ℕ}
pub use Rattle.std.proofs.lemmas.List.{drop_all, drop_more, get_or-map, get_or-replicate, get_or-set_other, get_or_read, length-map, length-replicate, length-set, length-take, take_all, take_more}
pub use Rattle.std.proofs.lemmas.Result.{on_ok_weaker}
pub use Rattle.std.specs.List.{All, zip}
pub use Rattle.std.specs.Str.Lines.{lines, lines_of_parts, strip_carriage_return}
pub use Rattle.mcy_keeper.specs.declared.book.Entry.{Entry}
pub use Rattle.result_book.proofs.Reading.{read_asks, read_below}
pub use Rattle.result_book.proofs.StateLemmas.{asks-at, length-asks, length-results}
pub use Rattle.result_book.specs.Campaigns.{IsFit}
pub use Rattle.result_book.specs.Rows.{answers_of, ask_on, groups, groups_from, read_on}
pub use Rattle.result_book.specs.Scripts.{ask, each_from, is_ended, word_in, words_of}
pub use Rattle.result_book.specs.declared.answer.Answer.{Answer}
pub use Rattle.result_book.specs.declared.campaign.Campaign.{Campaign}
pub use Rattle.result_book.specs.declared.script.TestWord.{TestWord}
pub use Rattle.result_book.specs.declared.script.TestWord.TheVariants.{Fail, Pass}
pub use Rattle.tag_script.specs.declared.answer.Ask.{Ask}
unfoldable pub use Rattle.source_report.specs.Lists.{list_text}
pub use Rattle.source_report.specs.Lists.{answer_text, answers_text, end_text, list_line, list_lines, tags_text}
pub use Rattle.source_report.specs.Requirements.{named_count, tag_count}
unfoldable pub use Rattle.source_report.specs.Sources.{source_text}
pub use Rattle.source_report.specs.Sources.{AreCounted, AreLineCounts, answers_at, columns, counted, file_text, file_texts, head_text, is_at, is_counted, is_wanted, line_text, lines_from}
pub use Rattle.source_report.specs.Sources.{source_lines, tag_names, wanted_count}
unfoldable pub use Rattle.source_report.specs.Texts.{count_lines}
pub use Rattle.source_report.specs.Texts.{end_count, is_end, is_word, number_line, tag_counts, tag_line, tag_lines, test_line, test_lines, third_word, word_count, word_name}
pub use Rattle.source_report.specs.declared.counts.End.{End}
pub use Rattle.source_report.specs.declared.counts.End.TheVariants.{Tag}
