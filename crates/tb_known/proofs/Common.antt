-- What several files here take from the specs of this crate and from the crates below.
pub use Rattle.std.proofs.Common.{[], ◌&&◌, ◌++◌, ◌||◌, ◌∙◌, ◌∷◌, ◌≡◌, All, Bool, List, ap, codes, false, if◌then◌else◌, map, not, refl, subst, sym, true, ℕ}
pub use Rattle.std.specs.List.{flat_map}
pub use Rattle.std.specs.Prelude.{None, Option, Some}
pub use Rattle.elab_proc.specs.Refusals.{common_size, divisions, same_form, zeros_at}
pub use Rattle.tb_assigns.specs.Checks.{all_signals, can_assign, has_shape, is_signal}
pub use Rattle.tb_checks.specs.Expressions.{case_faults, sides_faults, wrong}
pub use Rattle.tb_checks.specs.Lefts.{is_clock, name_faults, part_faults}
pub use Rattle.tb_code.proofs.Passing.{both, inside, passes-layer}
pub use Rattle.tb_code.specs.Tests.{NodePasses, Tests, all_labels_pass, all_of, item_passes, item_step as item_tests, labels_pass, passes, passes_step, task_passes}
pub use Rattle.tb_faults.specs.declared.fault.BenchFault.{BenchFault}
pub use Rattle.tb_faults.specs.declared.fault.BenchFault.TheVariants.{Unsupported, Wrong}
pub use Rattle.tb_tasks.specs.Tasks.{AreWhole, arguments_fit}
pub use Rattle.vlog_effects.specs.Expressions.{constant_of, width_of}
pub use Rattle.vlog_effects.specs.LeftSides.{Part, part_vector, parts_of, parts_step, vector_of}
pub use Rattle.vlog_meaning.proofs.Blanks.{left_nil, right_nil, these_nil}
pub use Rattle.vlog_meaning.specs.Scopes.{Names}
pub use Rattle.vlog_meaning.specs.Senses.{IsWhole, assigned, fault, is_empty, or_else, own_zeros, sense}
pub use Rattle.vlog_meaning.specs.declared.fault.Fault.{Fault}
pub use Rattle.vlog_meaning.specs.declared.scope.Decl.{Decl}
pub use Rattle.vlog_meaning.specs.declared.scope.Decl.TheVariants.{Constant, Signal}
pub use Rattle.vlog_syntax.specs.declared.expr.Expr.{Expr}
pub use Rattle.vlog_syntax.specs.declared.stmt.Argument.{Argument}
pub use Rattle.vlog_syntax.specs.declared.stmt.Assignment.{Assignment}
pub use Rattle.vlog_syntax.specs.declared.stmt.CaseItem.{CaseItem, roll-CaseItem}
pub use Rattle.vlog_syntax.specs.declared.stmt.Stmt.TheFolds.{fold-roll-CaseItem, fold-roll-Stmt, ind-Stmt, map-Stmt}
pub use Rattle.vlog_syntax.specs.declared.stmt.Stmt.TheOpen.{CaseItem-F, Stmt-F}
pub use Rattle.tb_known.specs.Laws.{FaultlessAssigns, FaultlessPass, PassingIsKnown, WaitsPass, argument_passes, bench_tests}
