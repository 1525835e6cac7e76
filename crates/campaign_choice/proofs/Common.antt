-- What several files here take from the specs of this crate and from the crates below.
pub use Rattle.std.proofs.Common.{[], ◌++◌, ◌+◌, ◌<◌, ◌∙◌, ◌∷◌, ◌≡◌, ◌≤◌, Bool, Bor, List, None, Ok, Option, Some, add-one, ap, append-nil, append_assoc, arith, bytes_eq, codes, get_or, length, map}
pub use Rattle.std.proofs.Common.{refl, rules, slice_get, subst, suc, sym, take, take-suc, tests, true, zero, ℕ}
pub use Rattle.std.proofs.lemmas.Iterator.{YieldsList-from_slice}
pub use Rattle.std.proofs.lemmas.Iterator.Search.{all_from_yields_List, any_from_yields_List}
pub use Rattle.std.proofs.lemmas.List.{length-map, take_more}
pub use Rattle.std.proofs.lemmas.List.Elements.{All-cons, All-head, All-nil, All-tail, filter_map-append}
pub use Rattle.std.proofs.lemmas.Option.{slice_get_past, slice_get_read}
pub use Rattle.std.specs.List.{All, cons_option, filter_map, flat_map}
pub use Rattle.mutation_sites.specs.SiteTexts.{site_text}
pub use Rattle.mutation_sites.specs.declared.site.Site.{Site}
pub use Rattle.netlist_core.specs.declared.raw.RawNetlist.{RawNetlist}
pub use Rattle.project_file.specs.Projects.{IsProject, design_files}
pub use Rattle.project_file.specs.declared.project.Project.{Project}
pub use Rattle.project_file.specs.declared.project.TestPlan.{TestPlan}
pub use Rattle.project_limits.specs.Files.{kind_files}
pub use Rattle.project_lines.specs.Paths.{with_name, with_names}
pub use Rattle.campaign_choice.specs.Campaigns.{campaign_of, file_item, names_of}
unfoldable pub use Rattle.campaign_choice.specs.Mutations.{picked_sites}
pub use Rattle.campaign_choice.specs.Mutations.{all_sites, pick_of, site_line}
pub use Rattle.campaign_choice.specs.Omitted.{file_at, is_omitted, is_on}
pub use Rattle.campaign_choice.specs.Projects.{HasScripts, kind_of, test_kinds, test_names}
