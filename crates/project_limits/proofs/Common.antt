-- What several files here take from the specs of this crate and from the crates below.
pub use Rattle.std.proofs.Common.{[], ◌&&◌, ◌++◌, ◌+◌, ◌<◌, ◌==◌, ◌||◌, ◌∙◌, ◌∷◌, ◌≡◌, ◌≤◌, Bool, IfSome, List, None, Option, Some, ap, append-nil, append_assoc, arith, bytes_eq, codes, cond, drop}
pub use Rattle.std.proofs.Common.{false, filter, find, if◌then◌else◌, length, length-append, map, nat_le, nat_lt, not, refl, slice_index, subst, suc, sym, true, ℕ}
pub use Rattle.std.proofs.lemmas.Bool.Decides.{nat_tests}
pub use Rattle.std.proofs.lemmas.List.{length-map}
pub use Rattle.std.proofs.lemmas.List.Elements.{All-cons, All-nil, filter-append}
pub use Rattle.std.proofs.lemmas.Slice.Eq.{bytes_eq-Decides}
pub use Rattle.std.specs.List.{All, flat_map, list_all}
pub use Rattle.std.specs.Prelude.{IsTrue}
pub use Rattle.std.specs.Str.Lines.{lines}
unfoldable pub use Rattle.project_file.specs.Projects.{design_in, fault_of, header_fault, part_at, part_fault, part_reads, parts_fault, project_of}
pub use Rattle.project_file.specs.Projects.{IsProject, around_in, design_files, is_test_too_many, lead_fault, lines_fault, missing, reads_in, test_of, titled_fault}
unfoldable pub use Rattle.project_file.specs.Values.{args_in, number_in, only_in, requirement_in}
pub use Rattle.project_file.specs.Values.{conflicts_in, range_of, requirement_of, size_in}
pub use Rattle.project_file.specs.declared.project.Project.{Project}
unfoldable pub use Rattle.project_lines.specs.Checks.{first_fault}
pub use Rattle.project_lines.specs.Checks.{first_of_two}
unfoldable pub use Rattle.project_lines.specs.Lines.{find_line, is_said}
pub use Rattle.project_lines.specs.Lines.{args_of, behind_key, has_line, is_filled, key_of}
unfoldable pub use Rattle.project_lines.specs.Paths.{count_fault, gather, with_name, with_names}
pub use Rattle.project_lines.specs.Paths.{Known, are_too_many, path_of}
unfoldable pub use Rattle.project_lines.specs.Scripts.{read_fault, script_at, script_fault, script_reads}
pub use Rattle.project_lines.specs.Scripts.{command_of, first_top, has_strange, reads_by, script_line_fault}
unfoldable pub use Rattle.project_lines.specs.Sections.{find_part, is_test, lines_in, tests_in, title_of}
pub use Rattle.project_lines.specs.Sections.{Part, has_header, lead, name_in, parts_of, plain_title}
pub use Rattle.project_lines.specs.Words.{is_among, is_name}
pub use Rattle.project_lines.specs.declared.error.ProjectError.{ProjectError}
pub use Rattle.project_lines.specs.declared.error.ProjectError.TheVariants.{BadLine, OutOfRange, Repeated, UnsupportedCommand}
pub use Rattle.project_lines.specs.declared.section.Title.{Title}
pub use Rattle.project_lines.specs.declared.section.Title.TheVariants.{Files, Logic, Options, Report, Script, Test}
unfoldable pub use Rattle.project_options.specs.Options.{is_option_known, is_option_range, option_fault, option_key}
pub use Rattle.project_options.specs.Options.{Around, are_tags, is_of_design, is_option_form, option_key_fault}
pub use Rattle.project_options.specs.declared.forms.OptionKey.TheVariants.{Only, Require, Skip, Tags}
pub use Rattle.project_limits.specs.Laws.{IsOfDesign, IsOfTags}
