-- What several files here take from the specs of this crate and from the crates below.
pub use Rattle.std.proofs.Common.{[], ◌%◌, ◌&&◌, ◌*◌, ◌++◌, ◌+◌, ◌-ℤ◌, ◌-◌, ◌/◌, ◌<◌, ◌==◌, ◌^◌, ◌||◌, ◌∙◌, ◌∷◌, ◌≡◌, ◌≤◌, ◌⊎◌, Bool, List, None, Option, Some, add-one, ap, arith, div-add-mod', drop}
pub use Rattle.std.proofs.Common.{false, get_or, inl, inr, length, map, min, mod-lt, nat_eq, nat_le, nat_lt, negsuc, not, pos, refl, slice_get, subst, suc, sym, take, true, zero, zero-add, ℕ, ℤ}
pub use Rattle.std.proofs.lemmas.Bool.{and_from, cases_Bool, cases_lt, or_cases, or_left, or_parts, or_right}
pub use Rattle.std.proofs.lemmas.Bool.Decides.{eqb_tells, nat_tests}
pub use Rattle.std.proofs.lemmas.List.{drop_all, get_or-set_other, get_or-set_same, get_or-take, get_or_default, length-map, length-set, length-take-le, take_all}
pub use Rattle.std.proofs.lemmas.List.Elements.{All-cons, All-head, All-nil, All-tail}
pub use Rattle.std.proofs.lemmas.Nat.{pow_pos}
pub use Rattle.std.proofs.lemmas.Nat.Bits.{bit_at_cat_high, bit_at_cat_low, same_from_bits, same_from_bits_below}
pub use Rattle.std.specs.Int.{bit_at}
pub use Rattle.std.specs.List.{All, Contains}
pub use Rattle.std.specs.Prelude.{if◌then◌else◌, slice_index, slice_index_or, slice_set}
pub use Rattle.cycle_sim.specs.Simulated.{Simulated, settled_nets}
pub use Rattle.mcy_base.specs.declared.word.Word.{Word}
pub use Rattle.net_order.specs.Orders.{IsInOrder, IsLeastReady, IsReady}
pub use Rattle.netlist_core.proofs.Settles.{length-values, number-fits, plain-causal}
pub use Rattle.netlist_core.specs.Checked.{IsSound, Plan, all_bits}
pub use Rattle.netlist_core.specs.Numbers.{number}
pub use Rattle.netlist_core.specs.Runs.{Holds as IsCycle, Nets as Values, bits_at, plain, q_bits, shown, taken, values}
pub use Rattle.netlist_core.specs.declared.bit.Bit.{Bit}
pub use Rattle.netlist_core.specs.declared.port.Port.{Port}
pub use Rattle.rand_pcg.specs.Lcg.{Lcg}
pub use Rattle.signal_masks.specs.Parts.{AreFit, indices_read}
pub use Rattle.tb_assigns.proofs.Checking.{and_left, and_right, check_can, empty_is}
pub use Rattle.tb_assigns.proofs.Fitting.{all_fit}
pub use Rattle.tb_evaluator.proofs.Served.{same_store, signals_fit, updates_fit}
pub use Rattle.tb_evaluator.specs.Meanings.{HasSignals, store_in}
pub use Rattle.tb_machine.specs.Phases.{Hold, Setting, Settles}
pub use Rattle.tb_machine.specs.Worlds.{Fits, World, all_applied, applied, assigned, gives, replaced, some_gives}
pub use Rattle.tb_machine.specs.declared.update.Update.{Update}
pub use Rattle.tb_nets.proofs.Graphs.{below_is, same_node}
pub use Rattle.tb_nets.specs.declared.nets.Nets.{Nets}
pub use Rattle.tb_nets.specs.declared.node.NetNode.{NetNode}
pub use Rattle.tb_nets.specs.declared.node.NetNode.TheVariants.{Assign, Design}
pub use Rattle.tb_plans.specs.Transfers.{IsTransferOf, OfTransfer, TransferFits, transfer_updates}
pub use Rattle.tb_plans.specs.declared.transfer.Transfer.{Transfer}
pub use Rattle.vlog_effects.proofs.Bools.{and-left, and-right}
pub use Rattle.vlog_meaning.proofs.Blanks.{left_nil, right_nil, these_nil}
pub use Rattle.vlog_meaning.proofs.Reading.{name_same, part_same, these_agree, those_agree, words_within}
pub use Rattle.vlog_meaning.proofs.Settled.{settled}
pub use Rattle.vlog_meaning.specs.Integers.{integer, natural, window}
pub use Rattle.vlog_meaning.specs.Laws.{Agree}
pub use Rattle.vlog_meaning.specs.Scopes.{AreWithin, IsWithin, Names, Store, decl_low, decl_value, names_of, store_of}
pub use Rattle.vlog_meaning.specs.declared.scope.Decl.{Decl}
pub use Rattle.vlog_meaning.specs.declared.shapes.Shape.{Shape}
pub use Rattle.vlog_syntax.specs.declared.expr.Expr.{Expr}
pub use Rattle.vlog_syntax.specs.declared.identifier.Identifier.{Identifier}
pub use Rattle.vlog_syntax.specs.declared.stmt.Assignment.{Assignment}
pub use Rattle.tb_settling.specs.Laws.{NetsSettleOnce, SidesFit, UpdatesRestOnReads, UpdatesStayInside}
pub use Rattle.tb_settling.specs.Nodes.{HasSettled, HaveSettled, IsCycleOf, IsOfNode, IsSide, IsStore, PortsFit, Situation, node_updates, situation, whole_update}
pub use Rattle.tb_settling.specs.Settling.{CanSettle, IsNetsOf, assign_updates, assigns_of, still, values_at, whole_updates}
