-- What several files here take from the specs of this crate and from the crates below.
pub use Rattle.std.proofs.Common.{[], ⊎_elim, ◌&&◌, ◌++◌, ◌+◌, ◌-◌, ◌<◌, ◌^◌, ◌∙◌, ◌∷◌, ◌≡◌, ◌≢◌, ◌≤◌, ◌⊎◌, Bool, Err, List, None, Ok, Option, Result, Some, ap, ap₂, arith, codes, cond, drop, eqb}
pub use Rattle.std.proofs.Common.{false, get_or, inl, inr, length, length-drop, nat_lt, not, refl, rules, slice_get, subst, suc, sym, take, true, zero, ℕ}
pub use Rattle.std.proofs.iter.FirstChar.{after_text, no_text}
pub use Rattle.std.proofs.lemmas.Bool.{and_parts, cases_eq, cases_lt}
pub use Rattle.std.proofs.lemmas.Bool.Decides.{nat_tests}
pub use Rattle.std.proofs.lemmas.Fmt.{IsAscii-decimal, decimal-digits_value, decimal_digit, decimal_injective, decimal_is_IsNumeral, decimal_nonempty, first_decimal, parse-decimal}
pub use Rattle.std.proofs.lemmas.List.{append-nil, append_assoc, drop_at, drop_more, get_or-append-add, get_or-take, get_or_append_left, get_or_at, get_or_past, length-append, length-take-le}
pub use Rattle.std.proofs.lemmas.List.{take-append-drop, take-append-le, take-take, take_all, take_at, take_more_same, take_rest}
pub use Rattle.std.proofs.lemmas.List.Elements.{All-append, All-cons, All-drop, All-from_get_or, All-get_or, All-head, All-nil, All-take}
pub use Rattle.std.proofs.lemmas.Str.{IsCharBoundary-after_ascii, IsCharBoundary-before_ascii, IsUtf8-append, IsUtf8-from_ascii, IsUtf8-nil, IsUtf8-take}
pub use Rattle.std.proofs.lemmas.Str.Parse.{IsNumeralModel, digit_at, numerals_by_value}
pub use Rattle.std.specs.List.{All}
pub use Rattle.std.specs.Prelude.{IsErrAnd, MatchOption, MatchResult, decimal}
pub use Rattle.std.specs.Str.{IsAscii, IsUtf8, StartsWithNoChar}
pub use Rattle.mutation_sites.specs.SiteTexts.{mode_text}
pub use Rattle.mutation_sites.specs.declared.mode.Mode.{Mode}
pub use Rattle.mutation_sites.specs.declared.mode.Mode.TheVariants.{Cnot0, Cnot1, Const0, Const1, Inv}
pub use Rattle.site_texts.specs.Choices.{GoesAlong, IsBadField, IsRead, IsSameFront, IsWordOf, Misses, is_control, mode_words, place_words, port_words, word_of}
pub use Rattle.site_texts.specs.Names.{IsCharacter, IsFront, IsName, IsSolid, is_blank}
pub use Rattle.site_texts.specs.Rests.{AreOf, AreOfBits, AreOfControl, AreOfPlace, AreOfPort, AreOfSource, HasBit, HasMode, HasPlace, IsAny, IsLastColon, IsNoLine, IsNoSource, IsPart, IsRest}
pub use Rattle.site_texts.specs.Rests.{IsSource, IsStuck}
pub use Rattle.site_texts.specs.SiteTexts.{HasControl, IsBadAt, IsSite, IsSiteText, after_bit, bit_text, control_text, kind_text, name_text, place_text, port_text, reads_control, site_text}
pub use Rattle.site_texts.specs.SiteTexts.{source_text, top_text}
pub use Rattle.site_texts.specs.declared.character.Character.TheVariants.{Cut, Whole}
pub use Rattle.site_texts.specs.declared.choice.Choice.{Choice}
pub use Rattle.site_texts.specs.declared.parts.Bits.{Bits}
pub use Rattle.site_texts.specs.declared.parts.Parts.{Parts}
pub use Rattle.site_texts.specs.declared.parts.PlaceText.{PlaceText}
pub use Rattle.site_texts.specs.declared.site.SiteText.{SiteText}
pub use Rattle.site_texts.specs.declared.source.Source.{Source}
