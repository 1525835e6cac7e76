-- What several files here take from the specs of this crate and from the crates below.
pub use Rattle.std.proofs.Common.{[], ◌++◌, ◌+◌, ◌-◌, ◌<◌, ◌↔◌, ◌∙◌, ◌∷◌, ◌≡◌, ◌≢◌, ◌≤◌, ◌⊎◌, Bool, List, None, Option, Some, ap, arith, drop, eqb, false, get_or, inl, inr, length, map, refl}
pub use Rattle.std.proofs.Common.{replicate, set, subst, suc, sym, take, true, zero, ℕ}
pub use Rattle.std.proofs.lemmas.Bool.{cases_Bool, cases_eq, cases_lt, cases_order, false≢true}
pub use Rattle.std.proofs.lemmas.Bool.Decides.{eqb_tells}
pub use Rattle.std.proofs.lemmas.List.{drop_more, get_or-map, get_or-set_other, get_or-set_same, get_or-take, get_or_append_left, get_or_default, get_or_push, get_or_read, length-drop, length-map}
pub use Rattle.std.proofs.lemmas.List.{length-replicate, length-set, length-take-le, length_push, map-set, nil_from_length, take-append-le, take_at}
pub use Rattle.std.proofs.lemmas.List.Elements.{All-contains, Contains-append_left, Contains-get_or, Contains-push, Contains-push_cases}
pub use Rattle.std.specs.BTreeSet.{insert_key}
unfoldable pub use Rattle.std.specs.List.{IsDistinct}
pub use Rattle.std.specs.List.{All, AllByRecursion, Contains}
pub use Rattle.std.specs.Ordering.{match_ordering, nat_cmp}
pub use Rattle.std.specs.declared.cmp.Ordering.TheVariants.{Equal, Greater, Less}
pub use Rattle.net_order.specs.Listing.{CanBePlaced, IsNext, IsPlaced, IsSized, IsStage, Stage, is_listed, marked, none_left, placed, stage_of, with_row}
pub use Rattle.net_order.specs.Orders.{AreInside, IsFirst, IsInOrder, IsLeast, IsLeastReady, IsOnLoop, IsOrder, IsReady, Never, Reads, ReadsThrough, row_of}
pub use Rattle.net_order.specs.Reaching.{IsFound, IsTrail, Reaches, Trail, after_node, after_nodes, trail_of, unfound}
