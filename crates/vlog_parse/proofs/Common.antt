-- What several files here take from the specs of this crate and from the crates below.
pub use Rattle.std.proofs.Common.{[], ◌&&◌, ◌++◌, ◌+◌, ◌-◌, ◌<◌, ◌∙◌, ◌∷◌, ◌≡◌, ◌≤◌, ◌⊎◌, Bool, List, None, Option, Some, ap, append_assoc, arith, drop, eq-eqb, false, get_or, if◌then◌else◌, inl, inr}
pub use Rattle.std.proofs.Common.{length, map, max, min, refl, subst, suc, sym, take, true, zero, ℕ}
pub use Rattle.std.proofs.Math.Seq.{take-length}
pub use Rattle.std.proofs.lemmas.Bool.{cases_lt, le-ltb, lt-ltb, ne_eqb}
pub use Rattle.std.proofs.lemmas.List.{append-nil, get_or-take, get_or_append_left, length-take-le, take-append-drop, take-append-le, take_at}
pub use Rattle.std.specs.List.{All}
pub use Rattle.mcy_base.specs.declared.span.Span.{Span}
unfoldable pub use Rattle.vlog_declarations.specs.Modules.{joined, made_module}
pub use Rattle.vlog_expand.specs.declared.error.ParseError.{ParseError}
pub use Rattle.vlog_grammar.proofs.Unique.{same_steps, texts_alike_for}
unfoldable pub use Rattle.vlog_grammar.specs.Grammar.{production}
pub use Rattle.vlog_grammar.specs.Grammar.{kind_of, parts_of}
pub use Rattle.vlog_grammar.specs.Reading.{AreStepsOf, AreStepsSoFar, AreTreesOf, IsReading, IsRefusedAt, IsStopAt, IsText, IsUnexpectedAt, none_refused, start, steps_for, taken}
pub use Rattle.vlog_grammar.specs.Trees.{Derives, Fits, Leaf, Nil, Node, Trees, refusals_of, steps_of, tokens_of}
pub use Rattle.vlog_grammar.specs.declared.rule.Kind.{Kind}
pub use Rattle.vlog_grammar.specs.declared.rule.Rule.{Rule}
pub use Rattle.vlog_grammar.specs.declared.step.Step.{Step}
pub use Rattle.vlog_grammar.specs.declared.step.Token.{Token as Classed}
pub use Rattle.vlog_grammar.specs.declared.stop.Stop.{Stop}
pub use Rattle.vlog_grammar.specs.declared.stop.Stop.TheVariants.{Unexpected, Unsupported}
pub use Rattle.vlog_grammar.specs.declared.table.Symbol.{Symbol}
pub use Rattle.vlog_grammar.specs.declared.table.Symbol.TheVariants.{Is, Of, Refused}
unfoldable pub use Rattle.vlog_items.specs.Items.{made_item, placed}
unfoldable pub use Rattle.vlog_parts.specs.Numbered.{first, rest}
pub use Rattle.vlog_parts.specs.declared.expression_parts.BraceEnd.{BraceEnd}
pub use Rattle.vlog_parts.specs.declared.expression_parts.Select.{Select}
pub use Rattle.vlog_parts.specs.declared.expression_parts.SelectEnd.{SelectEnd}
pub use Rattle.vlog_parts.specs.declared.module_parts.MoreParameters.{MoreParameters}
pub use Rattle.vlog_parts.specs.declared.module_parts.ParameterPort.{ParameterPort}
pub use Rattle.vlog_parts.specs.declared.value.Value.{Value}
unfoldable pub use Rattle.vlog_statements.specs.Events.{made_event}
unfoldable pub use Rattle.vlog_statements.specs.Statements.{assigned, made_statement}
pub use Rattle.vlog_syntax.specs.Nesting.{among, argument_nest, assignment_nest, block_nest, case_item_nest, case_item_nest_step, connections_nest, data_type_nest, delay_nest, expr_nest, greatest}
pub use Rattle.vlog_syntax.specs.Nesting.{item_nest, left_nest, module_nest, named_nest, names_nest, parameter_nest, parameter_type_nest, parameter_values_nest, part_nest, port_nest, ports_nest}
pub use Rattle.vlog_syntax.specs.Nesting.{range_nest, stmt_nest, stmt_nest_step}
pub use Rattle.vlog_syntax.specs.declared.expr.Expr.{Expr}
pub use Rattle.vlog_syntax.specs.declared.feature.Feature.{Feature}
pub use Rattle.vlog_syntax.specs.declared.item.Item.{Item}
pub use Rattle.vlog_syntax.specs.declared.item.ParameterAssignment.{ParameterAssignment}
pub use Rattle.vlog_syntax.specs.declared.module.Module.{Module}
pub use Rattle.vlog_syntax.specs.declared.stmt.Stmt.{Stmt}
pub use Rattle.vlog_token.specs.declared.token.Token.{Token}
unfoldable pub use Rattle.vlog_trees.specs.Expressions.{braced, chained, extended, left_selected, linked, made_expression, operated, select, selected}
unfoldable pub use Rattle.vlog_trees.specs.Meaning.{made}
pub use Rattle.vlog_trees.specs.Meaning.{leaf, means, modules}
unfoldable pub use Rattle.vlog_trees.specs.Passed.{made_passed}
pub use Rattle.vlog_parse.specs.Classes.{classed, classes, classes_from}
unfoldable pub use Rattle.vlog_parse.specs.Nesting.{begun, behind, ended, is_construct, reached, settled}
pub use Rattle.vlog_parse.specs.Nesting.{AllShallow, IsShallowBefore, IsTooDeepAt, begun_by, closed, depths, depths_in, ended_by, first_deep, height_of, more, outermost, walked}
pub use Rattle.vlog_parse.specs.Parsing.{AreMeant, AreOneFault, AreParsed, IsFault, IsFirstStop, place, stopped}
pub use Rattle.vlog_parse.specs.declared.nesting.Row.{Row}
