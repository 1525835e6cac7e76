-- What several files here take from the specs of this crate and from the crates below.
pub use Rattle.std.proofs.Common.{[], ◌&&◌, ◌++◌, ◌+◌, ◌<◌, ◌==◌, ◌^◌, ◌||◌, ◌∙◌, ◌∷◌, ◌≡◌, ◌≤◌, Bool, Bor, Err, IsUtf8, List, None, Option, Some, String, ap, append_assoc, ap₂, arith, chars, codes}
pub use Rattle.std.proofs.Common.{cond, drop, encode_utf8_all, false, get_or, inl, inr, length, lit<, map, nat_eq, nat_lt, option_map, refl, rules, string_bytes, subst, suc, sym, take, true}
pub use Rattle.std.proofs.Common.{true≢false, zero, ℕ}
pub use Rattle.std.proofs.lemmas.Bool.{and_parts, false_from_ne_true, leb-true, or_parts}
pub use Rattle.std.proofs.lemmas.Bool.Decides.{Decides-eqb, Decides-ltb}
pub use Rattle.std.proofs.lemmas.Option.{none-some, same_Some}
pub use Rattle.std.proofs.lemmas.Result.{IfOk-weaker}
pub use Rattle.std.proofs.lemmas.Slice.Eq.{bytes_eq-Decides, starts_is}
pub use Rattle.std.specs.List.{before_first, fold, list_all, list_any, onto_first, position_or_len, slice_split, starts_with}
pub use Rattle.std.specs.Option.{is_some, option_map_or}
pub use Rattle.std.specs.Prelude.{⊤, ◌⊎◌, IsTrue, bytes_eq, encode_utf8, find, nat_le, option_and_then, slice_get, unwrap_or}
pub use Rattle.std.specs.Str.Parse.{ParsesUnsigned, digits_value}
unfoldable pub use Rattle.clap.proofs.OnLiterals.{clap_on_literals}
pub use Rattle.clap.proofs.WalkLemmas.{first_value-rows, list_any-map, walk_stopped}
unfoldable pub use Rattle.clap.specs.Faults.{flags_fault, walk_fault}
pub use Rattle.clap.specs.Faults.{bundle_fault, bundle_step_fault, check_fault, default_fault, defaults_fault, entered_fault, fault_of, flag_word_fault, given_default_fault, level_fault, long_fault}
pub use Rattle.clap.specs.Faults.{option_fault, other_fault, positional_fault, settle_fault, short_fault, step_fault, stray_fault, turn_fault, use_fault, word_fault}
pub use Rattle.clap.specs.Kinds.{IsAmong, Kinds, or_else}
pub use Rattle.clap.specs.Lexer.{long_of, long_of_rest, short_of, short_of_rest, strip_byte}
pub use Rattle.clap.specs.Simple.{Shape, built, built_leaf, entered, filled, inherited, marked_built, names_of, subcommand_of, with_index, with_leaf_noted}
unfoldable pub use Rattle.clap.specs.Walk.{bundle_met, walked}
pub use Rattle.clap.specs.Walk.{Held, Names, Row, Rule, Step, Text, Waiting, Walk, after_flag, after_step, arg_by_index, arg_by_long, arg_by_short, at_row, attached_value, bundle_step, finished}
pub use Rattle.clap.specs.Walk.{first_of, has_row, idle, long_or_other, more_values, next, nothing_held, option, option_met, plain, plain_word, positional, settled, short_or_plain, subcommand_met}
pub use Rattle.clap.specs.Walk.{subcommand_or_other, to_positional, trailing, used, value, with_default, with_values, without, word_met}
pub use Rattle.clap.specs.Words.{App, app_of, found_of, is_simple, is_simple_and_free, kind_of, new_app, rows_of, rule_of, subcommand_rows_of, with_rule, with_subcommand}
pub use Rattle.clap.specs.declared.builder.command.Command.TheViews.{out-Command as fields_of}
pub use Rattle.clap.specs.declared.builder.value_parser.Reading.TheVariants.{AsWritten}
pub use Rattle.clap.specs.declared.parser.matches.ValueSource.TheVariants.{CommandLine}
pub use Rattle.command_words.specs.Commands.{Options, all_said, alone, asked_of, cells_number, command_of, demo_of, demo_with, is_cells, is_jobs, is_jobs_name, is_numeral, is_parted, is_retry_name}
pub use Rattle.command_words.specs.Commands.{is_stop, is_stop_name, jobs_number, jobs_with, joined, joined as option_joined, mutation_number, mutation_numbers, mutations_with, no_options, number_in}
pub use Rattle.command_words.specs.Commands.{once, one_word, options_of, parted, plainly, retry_limit, retry_with, run_with, seed_number, short_value, small_number, status_of, stop_number, stop_with}
pub use Rattle.command_words.specs.Program.{asked_by, asked_named, bare_program, cells_rule, choosing_by, command_line, demo_by, demo_line, demo_shape, first_line, jobs_rule, leaf, mutations_rule}
pub use Rattle.command_words.specs.Program.{retry_rule, retrying_by, run_at, run_by, run_found, run_line, run_shape, said_by, seed_rule, status_by, status_line, status_shape, stop_rule, stopping_by}
pub use Rattle.command_words.specs.Program.{strict_rule}
pub use Rattle.command_words.specs.declared.asked.Asked.{Asked}
pub use Rattle.command_words.specs.declared.command.Command.TheVariants.{Baseline, Demo, Init, List as Listing, Run, Source, Status}
