-- What several files here take from the specs of this crate and from the crates below.
pub use Rattle.std.proofs.Common.{[], ◌&&◌, ◌++◌, ◌<◌, ◌||◌, ◌∙◌, ◌∷◌, ◌≡◌, ◌≤◌, ◌⊎◌, Bool, List, ap, arith, false, get_or, inl, inr, length, map, refl, subst, suc, sym, take, true, zero, ℕ}
pub use Rattle.std.specs.List.{All, flat_map}
pub use Rattle.std.specs.Prelude.{None, Some, slice_get}
pub use Rattle.elab_proc.specs.Refusals.{AreSized, divisions, same_form}
pub use Rattle.tb_apart.proofs.Apart.{get_itself, left_nil, nets_apart, nodes_more, within}
pub use Rattle.tb_contents.specs.Nets.{item_nodes, nodes_of}
pub use Rattle.tb_faults.specs.declared.fault.BenchFault.{BenchFault}
pub use Rattle.tb_faults.specs.declared.fault.BenchFault.TheVariants.{Unsupported, Wrong}
pub use Rattle.tb_items.specs.declared.item.BenchItem.{BenchItem}
pub use Rattle.tb_nets.specs.Nets.{AreApart, IsSided, ReadsNode, Wiring, reads_of, wiring}
pub use Rattle.tb_nets.specs.Netted.{IsNetted}
pub use Rattle.tb_nets.specs.declared.nets.Netted.TheVariants.{Loop, Ready}
pub use Rattle.tb_nets.specs.declared.node.NetNode.{NetNode}
pub use Rattle.tb_nets.specs.declared.node.NetNode.TheVariants.{Assign, Design}
pub use Rattle.vlog_meaning.specs.Scopes.{Names, names_of}
pub use Rattle.vlog_syntax.specs.declared.stmt.Assignment.{Assignment}
pub use Rattle.tb_wired.specs.Wired.{IsFaultless, IsWired, places_of}
