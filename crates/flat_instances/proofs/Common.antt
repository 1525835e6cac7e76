-- What several files here take from the specs of this crate and from the crates below.
pub use Rattle.std.proofs.Common.{[], ◌++◌, ◌||◌, ◌∙◌, ◌∷◌, ◌≡◌, Bool, List, ap, drop, map, refl, ℕ}
pub use Rattle.flat_scopes.specs.Openings.{is_among}
pub use Rattle.flat_scopes.specs.Views.{opened_of}
pub use Rattle.flat_instances.specs.Gifts.{all_names, first_of, head_names, item_names, name_of, named_gifts, ordered_gifts, value_faults, with_gift}
pub use Rattle.flat_instances.specs.Views.{gift_in}
pub use Rattle.flat_instances.specs.Wires.{all_of, is_left, is_wired, ports_in, unwired, wired}
