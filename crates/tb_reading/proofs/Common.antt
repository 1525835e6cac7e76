-- What several files here take from the specs of this crate and from the crates below.
pub use Rattle.std.proofs.Common.{[], ◌++◌, ◌+◌, ◌<◌, ◌||◌, ◌∙◌, ◌∷◌, ◌≡◌, ◌≢◌, ◌≤◌, ◌⊎◌, Bool, List, None, Option, Some, ap, arith, drop, false, flat_map, get_or, if◌then◌else◌, inl, inr, length}
pub use Rattle.std.proofs.Common.{map, not, refl, slice_get, slice_set, subst, suc, sym, take, true, ℕ}
pub use Rattle.std.proofs.lemmas.List.{append-nil, append_assoc, drop_all, drop_more, length-map, map-append, take_more}
pub use Rattle.std.proofs.lemmas.List.Elements.{All-append, All-cons, All-head, All-nil, All-tail}
pub use Rattle.std.specs.List.{All}
pub use Rattle.std.specs.Prelude.{slice_index}
pub use Rattle.flat_scopes.specs.Openings.{Opened, unopened}
pub use Rattle.flat_scopes.specs.Views.{opened_of}
pub use Rattle.flat_scopes.specs.declared.opening.Placing.{Placing}
pub use Rattle.flat_scopes.specs.declared.opening.Step.{Step}
pub use Rattle.flat_scopes.specs.declared.signal.Signal.{Signal}
pub use Rattle.mcy_base.specs.declared.span.Span.{Span}
pub use Rattle.netlist_core.specs.Runs.{bits_at}
pub use Rattle.netlist_core.specs.declared.port.Port.{Port}
pub use Rattle.netlist_core.specs.declared.raw.RawNetlist.{RawNetlist}
pub use Rattle.tb_bench.specs.Runnable.{FitsDesign, IsBelow, IsRunnable}
pub use Rattle.tb_bench.specs.Settings.{begun, names, widths, with_clock}
pub use Rattle.tb_bench.specs.declared.parts.Clock.{Clock}
pub use Rattle.tb_bench.specs.declared.parts.Parts.{Parts}
pub use Rattle.tb_bench.specs.declared.parts.Waiting.{Waiting}
pub use Rattle.tb_code.proofs.Adding.{adds_both, adds_none, code_of}
pub use Rattle.tb_code.specs.Codes.{Adds, Holds, waiting}
pub use Rattle.tb_code.specs.Tests.{Passes}
pub use Rattle.tb_contents.specs.Designs.{IsDesign}
pub use Rattle.tb_contents.specs.Hidden.{hidden_names, numbers_from, port_widths}
pub use Rattle.tb_contents.specs.Nets.{nodes_of}
pub use Rattle.tb_contents.specs.Starts.{started}
pub use Rattle.tb_evaluator.specs.Meanings.{CanPerform, HasSignal, HasSignals, meaning}
pub use Rattle.tb_faults.specs.declared.error.BenchError.{BenchError}
pub use Rattle.tb_faults.specs.declared.fault.BenchFault.{BenchFault}
pub use Rattle.tb_items.specs.Items.{clock_of, delay_items, first_region, generates, has_values, held, held_instance, helper, is_strange, items_of, listed, or_later, process_item, step_instance}
pub use Rattle.tb_items.specs.Items.{step_items}
pub use Rattle.tb_items.specs.declared.design.Design.{Design}
pub use Rattle.tb_items.specs.declared.generator.Generator.{Generator}
pub use Rattle.tb_items.specs.declared.item.BenchItem.{BenchItem}
pub use Rattle.tb_known.proofs.Known.{known}
pub use Rattle.tb_known.specs.Laws.{bench_tests}
pub use Rattle.tb_machine.specs.Nodes.{IsCode, Tree, tree_of}
pub use Rattle.tb_machine.specs.declared.event.Event.{Event}
pub use Rattle.tb_machine.specs.declared.node.Node.{Node}
pub use Rattle.tb_nets.specs.declared.nets.Nets.{Nets}
pub use Rattle.tb_nets.specs.declared.node.NetNode.{NetNode}
pub use Rattle.tb_plans.specs.Plans.{AreNetPlans, ArePlans}
pub use Rattle.tb_refusals.specs.Refusals.{AreFaultless, Context, IsFirstIn, is_design, is_free, is_generator, some_item}
pub use Rattle.tb_settling.specs.Settling.{CanSettle, assigns_of, values_at, whole_updates}
pub use Rattle.tb_signals.specs.Opened.{IsOpened, Stands}
pub use Rattle.tb_signals.specs.Tables.{Table, hidden_decl}
pub use Rattle.tb_wired.specs.Wired.{IsFaultless, IsWired, places_of}
pub use Rattle.vlog_meaning.specs.Scopes.{Names, names_of, with_name}
pub use Rattle.vlog_meaning.specs.declared.scope.Decl.{Decl}
pub use Rattle.vlog_syntax.specs.declared.feature.Feature.TheVariants.{Helper}
pub use Rattle.vlog_syntax.specs.declared.identifier.Identifier.{Identifier}
pub use Rattle.vlog_syntax.specs.declared.item.Process.{Process}
pub use Rattle.vlog_syntax.specs.declared.item.ProcessKind.{ProcessKind}
pub use Rattle.vlog_syntax.specs.declared.module.Module.{Module}
pub use Rattle.vlog_syntax.specs.declared.stmt.Assignment.{Assignment}
pub use Rattle.vlog_syntax.specs.declared.stmt.Stmt.{Stmt, out-Stmt}
pub use Rattle.tb_reading.specs.Benches.{HasParts, IsBenchOf, IsClockOf, IsLoop, IsOnALoop, IsRefusal, IsRefused, begun_as, first_generator, high_bits}
pub use Rattle.tb_reading.specs.Laws.{AreAlike, BenchesAreAlike, NoneRefused, OneRefusal}
pub use Rattle.tb_reading.specs.Processes.{AddsWaiting, Begun, always_layer, bodies, events, item_processes, of_kind, processes}
pub use Rattle.tb_reading.specs.Readings.{IsRead, input_numbers, instance_names, instance_values, instance_widths, output_numbers, signal_widths, zeros}
pub use Rattle.tb_reading.specs.Reasons.{IsFault, IsReason, answer, context_in, region_fault}
pub use Rattle.tb_reading.specs.declared.reading.Reading.{Reading}
