-- What several files here take from the specs of this crate and from the crates below.
pub use Rattle.std.proofs.Common.{[], ◌%◌, ◌&&◌, ◌*◌, ◌+◌, ◌-◌, ◌/◌, ◌<◌, ◌^◌, ◌||◌, ◌∙◌, ◌∷◌, ◌≡◌, ◌≤◌, Bool, List, None, Option, Some, ap, arith, false, inl, inr, length, map, nat_le, nat_lt, refl}
pub use Rattle.std.proofs.Common.{set, slice_get, subst, suc, sym, true, zero, ℕ}
pub use Rattle.std.proofs.lemmas.List.{get_or-set_other, get_or-set_same, length-map, length-set}
pub use Rattle.std.proofs.lemmas.List.Elements.{All-append, All-head, All-nil, All-tail}
pub use Rattle.std.proofs.lemmas.Nat.{pow_pos, shr_split}
pub use Rattle.std.proofs.lemmas.Nat.Bits.{bit_at-zero, bit_at_above, bit_at_cat_high, same_from_bits}
pub use Rattle.std.specs.List.{All}
pub use Rattle.std.specs.Prelude.{slice_index}
pub use Rattle.mcy_base.specs.declared.word.Word.{Word}
pub use Rattle.netlist_core.specs.Runs.{bits_at, plain, shown}
pub use Rattle.netlist_core.specs.declared.bit.Bit.{Bit}
pub use Rattle.netlist_core.specs.declared.raw.RawNetlist.{RawNetlist}
pub use Rattle.tb_assigns.proofs.Fitting.{all_fit}
pub use Rattle.tb_bench.specs.Runnable.{FitsDesign, IsRunnable}
pub use Rattle.tb_bench.specs.Settings.{begun, names, setting_of, start_of, widths, with_clock}
pub use Rattle.tb_bench.specs.declared.parts.Parts.{Parts}
pub use Rattle.tb_evaluator.proofs.Served.{updates_fit}
pub use Rattle.tb_evaluator.specs.Meanings.{HasSignal, HasSignals, meaning, store_in}
pub use Rattle.tb_machine.proofs.Places.{all_below, power_le}
pub use Rattle.tb_machine.specs.Nodes.{Tree}
pub use Rattle.tb_machine.specs.Phases.{Ending, Finish, Going, IsEnd, IsPhase, IsPhaseOf, Limit, Setting, Settles, State, active_part, event_of_phase}
pub use Rattle.tb_machine.specs.Steps.{Finished, Pauses, Ran, Suspended, TooLong}
pub use Rattle.tb_machine.specs.Worlds.{Fits, World, all_applied, applied, gives, replaced, some_gives}
pub use Rattle.tb_machine.specs.declared.update.Update.{Update}
pub use Rattle.tb_settling.specs.Nodes.{IsStore, PortsFit}
pub use Rattle.tb_settling.specs.Settling.{IsNetsOf, assign_updates, assigns_of, still, values_at, whole_updates}
pub use Rattle.vlog_meaning.specs.Scopes.{IsWithin, Names}
pub use Rattle.vlog_syntax.specs.declared.stmt.Assignment.{Assignment}
pub use Rattle.tb_once.specs.Stores.{AreValues}
