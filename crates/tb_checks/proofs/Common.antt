-- What several files here take from the specs of this crate and from the crates below.
pub use Rattle.std.proofs.Common.{[], ◌&&◌, ◌*◌, ◌++◌, ◌+◌, ◌<◌, ◌||◌, ◌∙◌, ◌∷◌, ◌≡◌, ◌≤◌, Bool, List, add-one, ap, append_assoc, arith, drop, false, get_or, if◌then◌else◌, length, map, max, not}
pub use Rattle.std.proofs.Common.{refl, rules, subst, suc, sym, take, true, zero, ℕ}
pub use Rattle.std.proofs.lemmas.List.{append-nil}
pub use Rattle.std.proofs.lemmas.Result.{IfOk-weaker}
pub use Rattle.std.specs.List.{flat_map}
pub use Rattle.std.specs.Prelude.{None, Option, Some, option_copied}
pub use Rattle.mcy_base.specs.declared.span.Span.{Span}
pub use Rattle.tb_faults.proofs.Firsts.{first_alone, first_wrong}
pub use Rattle.tb_faults.specs.Order.{IsFirst}
pub use Rattle.tb_faults.specs.declared.fault.BenchFault.{BenchFault}
pub use Rattle.tb_faults.specs.declared.fault.BenchFault.TheVariants.{Unsupported, Wrong}
pub use Rattle.vlog_effects.specs.LeftSides.{Part, concatenated, parts_of}
pub use Rattle.vlog_meaning.proofs.Blanks.{left_nil, right_nil, these_nil}
pub use Rattle.vlog_meaning.proofs.Firsts.{least_nil, least_none, pair_of}
pub use Rattle.vlog_meaning.proofs.Refusals.{kept, least_empty, pair_first, passed}
unfoldable pub use Rattle.vlog_meaning.specs.Answers.{least}
pub use Rattle.vlog_meaning.specs.Answers.{earlier, least_at}
pub use Rattle.vlog_meaning.specs.Scopes.{Names, names_of}
pub use Rattle.vlog_meaning.specs.Senses.{IsWhole, Sense, all_features, assigned, binary_features, fault, index_features, name_faults, own_zeros, sense, senses}
pub use Rattle.vlog_meaning.specs.declared.fault.Cause.TheVariants.{SystemFunction}
pub use Rattle.vlog_meaning.specs.declared.fault.Fault.{Fault}
pub use Rattle.vlog_meaning.specs.declared.shapes.Shape.{Shape}
pub use Rattle.vlog_refusals.specs.Cases.{labels_in}
pub use Rattle.vlog_refusals.specs.Expressions.{divisions}
pub use Rattle.vlog_syntax.specs.declared.expr.Expr.{Expr, roll-Expr}
pub use Rattle.vlog_syntax.specs.declared.feature.Feature.TheVariants.{ClockList, Delay}
pub use Rattle.vlog_syntax.specs.declared.identifier.Identifier.{Identifier}
pub use Rattle.vlog_syntax.specs.declared.stmt.Argument.{Argument}
pub use Rattle.vlog_syntax.specs.declared.stmt.Assignment.{Assignment}
pub use Rattle.vlog_syntax.specs.declared.stmt.CaseItem.{CaseItem, out-CaseItem, roll-CaseItem}
pub use Rattle.vlog_syntax.specs.declared.stmt.EventControl.{EventControl}
pub use Rattle.vlog_syntax.specs.declared.stmt.Stmt.{Stmt, out-Stmt, out-roll-Stmt, roll-Stmt, roll-out-Stmt}
pub use Rattle.vlog_syntax.specs.declared.stmt.Stmt.TheFolds.{fold-CaseItem, fold-roll-CaseItem, fold-roll-Stmt, fold_out-CaseItem, fold_out-Stmt, ind-Stmt, map-Stmt}
pub use Rattle.vlog_syntax.specs.declared.stmt.Stmt.TheOpen.{CaseItem-F, Stmt-F}
pub use Rattle.tb_checks.specs.Expressions.{case_faults, sides_faults, wrong}
pub use Rattle.tb_checks.specs.Lefts.{is_clock, part_faults}
pub use Rattle.tb_checks.specs.Nets.{all_randoms, call_random, indices_faults, net_faults, net_wrong, part_indices, randoms, randoms_step}
pub use Rattle.tb_checks.specs.Starts.{Begun, any_of, begun, begun_step, block_faults, clock_width, first_faults, is_start, item_again, item_waits, may_behind, sets, sets_in, signal_width, some_sets}
pub use Rattle.tb_checks.specs.Starts.{start_faults, start_value, starting, starting_in, turn_faults, unless, waits}
pub use Rattle.tb_checks.specs.Statements.{ItemFaults, Rules, all_bodies, all_faults, all_labels, argument_faults, arguments_faults, assignment_faults, control_faults, event_faults, format_faults}
pub use Rattle.tb_checks.specs.Statements.{is_dump, is_print, item_faults, item_step, other_task, stmt_faults, stmt_step, task_faults, test_faults}
pub use Rattle.tb_checks.specs.Views.{rules_in}
