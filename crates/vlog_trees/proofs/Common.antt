-- What several files here take from the specs of this crate and from the crates below.
pub use Rattle.std.proofs.Common.{[], ◌++◌, ◌+◌, ◌-◌, ◌<◌, ◌∙◌, ◌∷◌, ◌≡◌, ◌≤◌, List, None, Option, Some, ap, append_assoc, arith, drop, length, refl, subst, suc, sym, take, true, zero, ℕ}
pub use Rattle.std.proofs.lemmas.List.{append-nil, drop_at, drop_more, take_at}
unfoldable pub use Rattle.vlog_grammar.specs.Grammar.{production}
pub use Rattle.vlog_grammar.specs.Grammar.{kind_of, parts_of}
pub use Rattle.vlog_grammar.specs.Reading.{AreStepsOf, AreTreesOf, IsText, none_refused, start}
pub use Rattle.vlog_grammar.specs.Trees.{Derives, Leaf, Nil, Node, Trees, refusals_of, steps_of, tokens_of}
pub use Rattle.vlog_grammar.specs.declared.step.Step.{Step}
pub use Rattle.vlog_grammar.specs.declared.step.Step.TheVariants.{Begin, Take}
pub use Rattle.vlog_grammar.specs.declared.step.Token.{Token as Classed}
pub use Rattle.vlog_grammar.specs.declared.table.Symbol.{Symbol}
unfoldable pub use Rattle.vlog_parts.specs.Numbered.{first, rest}
pub use Rattle.vlog_parts.specs.Numbered.{second}
pub use Rattle.vlog_parts.specs.Values.{chain_of, expr_of, modules_of, span_of}
pub use Rattle.vlog_parts.specs.declared.value.Value.{Value}
pub use Rattle.vlog_token.specs.declared.token.Token.{Token}
unfoldable pub use Rattle.vlog_trees.specs.Expressions.{chained, linked, made_expression, operated}
pub use Rattle.vlog_trees.specs.Expressions.{extended}
unfoldable pub use Rattle.vlog_trees.specs.Meaning.{made}
pub use Rattle.vlog_trees.specs.Meaning.{leaf, means, modules, run}
