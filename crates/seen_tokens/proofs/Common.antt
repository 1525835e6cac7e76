-- What several files here take from the specs of this crate and from the crates below.
pub use Rattle.std.proofs.Common.{[], ◌&&◌, ◌++◌, ◌+◌, ◌∙◌, ◌∷◌, ◌≡◌, Bool, List, None, Option, Some, ap, append_assoc, bytes_eq, cond, false, if◌then◌else◌, inl, inr, is_some, map, not, option_map}
pub use Rattle.std.proofs.Common.{refl, slice_get, subst, suc, sym, true, zero, ℕ}
pub use Rattle.std.proofs.Math.Path.{ap₂, fun_ext}
pub use Rattle.mcy_base.specs.declared.span.Span.{Span}
unfoldable pub use Rattle.vlog_expand.specs.Definitions.{no_macros, with_text}
pub use Rattle.vlog_expand.specs.Definitions.{Definitions}
pub use Rattle.vlog_expand.specs.Lines.{behind_line, is_on, rest_of_line}
unfoldable pub use Rattle.vlog_expand.specs.Words.{is_macro_name, word_of}
pub use Rattle.vlog_expand.specs.Words.{is_name, is_shown, is_use, name_of}
pub use Rattle.vlog_expand.specs.declared.error.ParseError.{ParseError}
pub use Rattle.vlog_expand.specs.declared.word.Word.{Word}
pub use Rattle.vlog_expand.specs.declared.word.Word.TheVariants.{Define, Dropped, Else, Elsif, Endif, Ifdef, Ifndef, Include, Refused, Undef}
pub use Rattle.vlog_grammar.specs.declared.rule.Rule.{Rule}
unfoldable pub use Rattle.vlog_parts.specs.Numbered.{first, rest}
pub use Rattle.vlog_parts.specs.Values.{expr_of, modules_of, span_of}
pub use Rattle.vlog_parts.specs.declared.value.Value.{Value}
pub use Rattle.vlog_syntax.specs.declared.feature.Feature.TheVariants.{MacroDepth, MacroForm}
pub use Rattle.vlog_token.specs.declared.token.Token.{Token}
unfoldable pub use Rattle.vlog_trees.specs.Meaning.{leaf, made}
pub use Rattle.vlog_trees.specs.Meaning.{made_by, means, modules}
pub use Rattle.seen_tokens.specs.Bare.{bare}
