-- What several files here take from the specs of this crate and from the crates below.
pub use Rattle.std.proofs.Common.{[], ◌%◌, ◌++◌, ◌+◌, ◌<◌, ◌^◌, ◌||◌, ◌∙◌, ◌∷◌, ◌≡◌, ◌≤◌, Bool, List, None, Option, Some, ap, arith, cond, drop, false, length, map, mod-eq_of_lt, refl, subst, suc}
pub use Rattle.std.proofs.Common.{sym, true, true≢false, zero, ℕ, ℤ}
pub use Rattle.std.proofs.lemmas.Map.Text.{btree_map_updates_text, btree_set_updates_text, is_eq-slice_cmp}
pub use Rattle.std.proofs.lemmas.Result.{IfOk-weaker}
pub use Rattle.std.specs.Option.{is_some, option_map}
pub use Rattle.std.specs.Str.{bytes_eq}
pub use Rattle.std.specs.declared.alloc.Global.{Global}
pub use Rattle.std.specs.declared.string.String.{String}
pub use Rattle.mcy_base.specs.declared.span.Span.{Span}
unfoldable pub use Rattle.vlog_meaning.specs.Answers.{least}
pub use Rattle.vlog_meaning.specs.Answers.{const_error}
pub use Rattle.vlog_meaning.specs.Scopes.{Names, names_of, nothing}
pub use Rattle.vlog_meaning.specs.Senses.{Sense, assigned, constant_faults, constant_integer, own, sense}
pub use Rattle.vlog_meaning.specs.declared.fault.ConstError.{ConstError}
pub use Rattle.vlog_meaning.specs.declared.fault.Fault.{Fault}
pub use Rattle.vlog_syntax.specs.declared.expr.Expr.{Expr}
pub use Rattle.vlog_syntax.specs.declared.identifier.Identifier.{Identifier}
pub use Rattle.vlog_syntax.specs.declared.item.Item.{Item, out-Item}
pub use Rattle.vlog_syntax.specs.declared.item.PlainItem.{PlainItem}
pub use Rattle.flat_scopes.specs.Insides.{block_names, first_taken, instances}
pub use Rattle.flat_scopes.specs.Known.{AreKnown, is_among}
pub use Rattle.flat_scopes.specs.Openings.{Opened, data_names, genvar_names, port_names, step}
pub use Rattle.flat_scopes.specs.Opens.{Opens, all_parameters, all_ports, body_labels, construct, declared, header_names, labels_of, labels_step, merged, open_block, open_if, open_loop, open_null}
pub use Rattle.flat_scopes.specs.Opens.{open_plain, open_region, opened, undeclared, with_label}
pub use Rattle.flat_scopes.specs.Valued.{constant_name, declared_as, given_value, parameter_names, value_fault, valued, zero_as}
pub use Rattle.flat_scopes.specs.Views.{opened_of}
pub use Rattle.flat_scopes.specs.Wires.{declared_ports, name_in, named_wires, ordered_wires}
pub use Rattle.flat_scopes.specs.declared.opening.Step.TheVariants.{Generates, Lists}
