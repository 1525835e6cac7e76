-- What several files here take from the specs of this crate and from the crates below.
pub use Rattle.std.proofs.Common.{[], ◌&&◌, ◌+◌, ◌-◌, ◌<◌, ◌==◌, ◌∙◌, ◌≡◌, ◌≢◌, ◌≤◌, Bool, Bor, List, ap, arith, drop, drop_of_length-le, false, get_or, get_or-drop, length, length-drop, lit<, map}
pub use Rattle.std.proofs.Common.{not, rules, sym, take, take_all, tests, true, ℕ}
pub use Rattle.std.proofs.lemmas.Iterator.{YieldsList-from_slice}
pub use Rattle.std.proofs.lemmas.Iterator.Search.{all_from_yields_List, any_from_yields_List}
pub use Rattle.std.specs.List.{after_first, after_last, before_first, before_last, list_all, position_or_len, suffix_len}
pub use Rattle.project_lines.proofs.Faults.{checks_err, fault_end, fault_here, fault_step, mapped_drop}
pub use Rattle.project_lines.proofs.Maps.{all_map}
pub use Rattle.project_lines.specs.Words.{is_among}
unfoldable pub use Rattle.project_options.specs.Instances.{is_instance}
pub use Rattle.project_options.specs.Instances.{is_inner_name, is_within}
pub use Rattle.project_options.specs.Options.{are_once, around_of, is_mode, is_of_design, option_fault}
unfoldable pub use Rattle.project_options.specs.Ranges.{back_number, file_part, front_number, lines_part}
pub use Rattle.project_options.specs.Ranges.{is_range, is_range_within}
