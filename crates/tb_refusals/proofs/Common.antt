-- What several files here take from the specs of this crate and from the crates below.
pub use Rattle.std.proofs.Common.{[], ◌&&◌, ◌++◌, ◌<◌, ◌||◌, ◌∙◌, ◌∷◌, ◌≡◌, Bool, List, add-one, ap, arith, drop, false, get_or, length, map, nat_eq, nat_lt, not, refl, subst, suc, sym, take, true}
pub use Rattle.std.proofs.Common.{zero, ℕ}
pub use Rattle.tb_faults.specs.Order.{IsFirst}
pub use Rattle.tb_faults.specs.declared.fault.BenchFault.{BenchFault}
pub use Rattle.tb_faults.specs.declared.fault.BenchFault.TheVariants.{TwoClocks, Wrong}
pub use Rattle.tb_items.specs.declared.item.BenchItem.{BenchItem}
pub use Rattle.tb_writers.specs.Views.{written_of}
pub use Rattle.tb_writers.specs.Writers.{Written, nothing, with_item, with_items, with_outputs, writer_faults}
pub use Rattle.vlog_meaning.specs.Scopes.{Names, names_of}
pub use Rattle.tb_refusals.specs.Refusals.{AreFaultless, Context, IsRefused, OneFirst, first_faults, generator_faults, is_design, is_free, is_generator, is_start, item_faults, may_start}
pub use Rattle.tb_refusals.specs.Refusals.{own_item_faults, second, some_item, written}
pub use Rattle.tb_refusals.specs.Views.{HasSeen, context_of}
