-- What several files here take from the specs of this crate and from the crates below.
pub use Rattle.std.proofs.Common.{[], ◌%◌, ◌&&◌, ◌*◌, ◌++◌, ◌+◌, ◌-◌, ◌/◌, ◌<◌, ◌==◌, ◌^◌, ◌∙◌, ◌∷◌, ◌≡◌, ◌≤◌, Bool, Err, List, None, Ok, Option, Result, Some, ap, arith, false, if◌then◌else◌, inl}
pub use Rattle.std.proofs.Common.{inr, length, length-append, not, refl, subst, suc, sym, take, true, zero, ℕ}
pub use Rattle.std.proofs.lemmas.Bool.{and_parts, leb-true}
pub use Rattle.std.specs.List.{list_all, onto_first, slice_split, suffix_len}
pub use Rattle.std.specs.Prelude.{IfErr, IfOk, codes, decimal, drop, nat_le, nat_lt, slice_index}
pub use Rattle.std.specs.Str.Lines.{lines, lines_of_parts, strip_carriage_return}
pub use Rattle.campaign_reading.specs.Files.{Exceeds, IsMade, Lacks, config_name}
pub use Rattle.campaign_reading.specs.Prepared.{Prepared}
pub use Rattle.campaign_reading.specs.Reads.{HasReadCause, IsNext, IsRead, IsUnmade}
pub use Rattle.made_project.specs.Designs.{design_text, end_text, generator, head_text, net_line, net_lines, operator_text}
pub use Rattle.made_project.specs.Projects.{bench_text, config_text, made_files, settings_text}
pub use Rattle.mcy_outside.specs.Files.{Gives, Held, IsLarge, look_up}
unfoldable pub use Rattle.project_file.specs.Projects.{design_in, project_of}
pub use Rattle.project_file.specs.Projects.{IsProject}
pub use Rattle.project_file.specs.declared.project.Project.{Project}
unfoldable pub use Rattle.made_campaign.specs.Made.{made_held}
pub use Rattle.made_campaign.specs.Made.{IsOfTexts, made_limit}
