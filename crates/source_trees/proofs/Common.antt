-- What several files here take from the specs of this crate and from the crates below.
pub use Rattle.std.proofs.Common.{[], ◌++◌, ◌+◌, ◌<◌, ◌∙◌, ◌∷◌, ◌≡◌, ◌≢◌, ◌≤◌, ◌⊎◌, All, Err, List, Ok, Result, ap, append_assoc, arith, drop, get_or, inl, inr, length, map, refl, subst, suc, sym}
pub use Rattle.std.proofs.Common.{take, ℕ}
pub use Rattle.std.proofs.lemmas.List.{append-nil, drop_all, drop_more, length-map, map_push, take_all}
pub use Rattle.std.proofs.lemmas.List.Elements.{All-append, All-head, All-more, All-same, All-tail}
pub use Rattle.std.specs.Str.{IsUtf8, IsValidUpTo}
pub use Rattle.mcy_base.specs.declared.file.SourceFile.{SourceFile}
pub use Rattle.mcy_base.specs.declared.span.Span.{Span}
pub use Rattle.seen_tokens.specs.Bare.{bare, token_of}
pub use Rattle.vlog_expand.specs.Files.{Comes, IsCarriedOut, IsRefused, start}
pub use Rattle.vlog_expand.specs.Uses.{Gives, Outcome, Refuses}
pub use Rattle.vlog_expand.specs.declared.error.ParseError.{ParseError}
pub use Rattle.vlog_parse.specs.Parsing.{AreOneFault, AreParsed, IsFault}
pub use Rattle.vlog_syntax.specs.Nesting.{module_nest}
pub use Rattle.vlog_syntax.specs.declared.module.Module.{Module}
pub use Rattle.vlog_token.specs.Places.{place_after, place_moved}
pub use Rattle.vlog_token.specs.declared.token.Token.{Token}
pub use Rattle.source_trees.specs.Faults.{IsFileFault, IsNoText, IsTreeFault, IsUngiven, IsUnparsed, IsUnread, of_parse}
pub use Rattle.source_trees.specs.Files.{AllMeant, AreGiven, AreMeantBy, AreModules, AreRead, ComesTo, max_tokens}
pub use Rattle.source_trees.specs.declared.error.ReadError.{ReadError}
pub use Rattle.source_trees.specs.declared.error.ReadError.TheVariants.{Memory, NotUtf8, Parse, Token as TokenFault}
