-- What several files here take from the specs of this crate and from the crates below.
pub use Rattle.std.proofs.Common.{[], ◌++◌, ◌+◌, ◌∙◌, ◌≡◌, Bor, List, None, Some, ap, drop, false, map, rules, subst, sym, take, tests, true, ℕ}
pub use Rattle.project_lines.proofs.Faults.{checks_err, fault_end, fault_here, fault_step}
pub use Rattle.project_lines.specs.Checks.{first_fault}
pub use Rattle.project_lines.specs.Paths.{gather, paths_in, with_names}
pub use Rattle.project_lines.specs.Sections.{Part, seen}
pub use Rattle.project_options.specs.Options.{Around, around_of}
unfoldable pub use Rattle.project_file.specs.Projects.{lead_fault, part_fault}
pub use Rattle.project_file.specs.Projects.{missing_kind, missing_pass, numbered, part_at, part_reads, test_of}
unfoldable pub use Rattle.project_file.specs.Tests.{test_fault}
pub use Rattle.project_file.specs.Tests.{is_answer, test_at, test_reads}
