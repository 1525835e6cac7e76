-- What several files here take from the specs of this crate and from the crates below.
pub use Rattle.std.proofs.Common.{[], ◌&&◌, ◌++◌, ◌+◌, ◌-◌, ◌<◌, ◌==◌, ◌^◌, ◌||◌, ◌∙◌, ◌∷◌, ◌≡◌, ◌≢◌, ◌≤◌, Bool, Bor, Decides, Err, IsCharBoundary, IsErrAnd, IsUtf8, List, None, Ok, Option, Result}
pub use Rattle.std.proofs.Common.{Some, add-one, ap, append-nil, append_assoc, ap₂, arith, bytes_eq, cond, drop, drop-cons, drop_of_length-le, false, filter, find, get_or, if◌then◌else◌, is_some}
pub use Rattle.std.proofs.Common.{le_refl, length, length-append, length-drop, map, min, not, one-add, option_map, refl, rules, subst, suc, sym, take, take-suc, take_all, tests, true, true≢false}
pub use Rattle.std.proofs.Common.{zero, ℕ}
pub use Rattle.std.proofs.lemmas.Bool.Decides.{nat_tests}
pub use Rattle.std.proofs.lemmas.Iterator.{YieldsList-from_slice}
pub use Rattle.std.proofs.lemmas.Iterator.Consumers.{count_from_yields_List, map_from_collect}
pub use Rattle.std.proofs.lemmas.Iterator.Search.{YieldsList-from_take_while, all_from_yields_List, any_from_yields_List}
pub use Rattle.std.proofs.lemmas.List.{length-map, map-append}
pub use Rattle.std.proofs.lemmas.List.Folds.{find-append, length-prefix_len}
pub use Rattle.std.proofs.lemmas.List.Splits.{length-slice_split, slice_split-cons_no, slice_split-cons_yes}
pub use Rattle.std.proofs.lemmas.List.Sums.{count_by-le-length, length-filter, prefix_len-le-length, prefix_len_passes, prefix_len_stops, suffix_len_is}
pub use Rattle.std.proofs.lemmas.Str.{IsCharBoundary-after_ascii, IsCharBoundary-start}
pub use Rattle.std.specs.List.{list_all, list_any, onto_first, prefix_len, slice_split, suffix_len}
unfoldable pub use Rattle.project_lines.specs.Checks.{first_fault}
pub use Rattle.project_lines.specs.Checks.{Checks, first_of_two}
unfoldable pub use Rattle.project_lines.specs.Lines.{behind_word, from_word, front_word, is_blank, without_blanks_behind, words}
pub use Rattle.project_lines.specs.Lines.{find_line, header_of, is_filled, is_of_word, is_said, key_of}
unfoldable pub use Rattle.project_lines.specs.Paths.{count_fault, files_fault, find_path, gather, last_part, no_paths, paths_in, with_line, with_name, with_names, with_path}
pub use Rattle.project_lines.specs.Paths.{Known, are_too_many, files_at, is_path_of, path_of, with_first}
unfoldable pub use Rattle.project_lines.specs.Scripts.{first_top, script_fault}
pub use Rattle.project_lines.specs.Scripts.{has_strange, script_at, script_reads, top_of}
unfoldable pub use Rattle.project_lines.specs.Sections.{parts_of, section_at, tests_in}
pub use Rattle.project_lines.specs.Sections.{Part, find_part, has_header, is_test, lead, lines_in, section_by, seen}
pub use Rattle.project_lines.specs.Words.{is_among, is_name}
pub use Rattle.project_lines.specs.declared.error.ProjectError.{ProjectError}
pub use Rattle.project_lines.specs.declared.error.ProjectError.TheVariants.{Memory, OutOfRange}
