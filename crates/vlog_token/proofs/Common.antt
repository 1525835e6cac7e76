-- What several files here take from the specs of this crate and from the crates below.
pub use Rattle.std.proofs.Common.{[], ⊎_elim, ◌%◌, ◌&&◌, ◌*◌, ◌++◌, ◌+◌, ◌-◌, ◌<◌, ◌^◌, ◌||◌, ◌∙◌, ◌∷◌, ◌≡◌, ◌≤◌, ◌⊎◌, Bool, IsUtf8, List, add-zero, ap, append-nil, append_assoc, arith, cond, drop}
pub use Rattle.std.proofs.Common.{false, get_or, inl, inr, length, length-append, length-take-le, map, min, not, refl, subst, suc, sym, take, take-append-drop, true, ℕ}
pub use Rattle.std.proofs.lemmas.Bool.{and_from, and_left, and_parts, cases_lt, cond-false, cond-true, cond_both, eq-eqb, eqb-false, eqb-true, ltb-true, ne_eqb, not_from_false, not_from_true}
pub use Rattle.std.proofs.lemmas.Bool.{or_cases, or_from, or_left, or_parts}
pub use Rattle.std.proofs.lemmas.Bool.Decides.{nat_tests}
pub use Rattle.std.proofs.lemmas.List.{append_cancel_left, drop_at, get_or-append-add, get_or-take, get_or_append_left, get_or_past, reverse-append, take_more, take_rest}
pub use Rattle.std.proofs.lemmas.List.Sums.{count_by-le-length, fold_more, prefix_len-le-length, suffix_len-le-length, sum_by_push}
pub use Rattle.std.specs.Char.{is_ascii_digit}
pub use Rattle.std.specs.List.{AllByRecursion, concat, list_all, prefix_len, suffix_len}
pub use Rattle.std.specs.Prelude.{◌==◌, Err, IsSome, None, Ok, Option, Result, Some, codes, count_by, nat_lt, option_map, slice_index}
pub use Rattle.mcy_base.specs.declared.span.Span.{Span}
pub use Rattle.vlog_token.specs.Bytes.{AllAre, is_among, is_blank, is_decimal_part, is_digit, is_digit_part, is_escape, is_in_line, is_name_part, is_name_start, is_newline, is_plain, is_sign}
pub use Rattle.vlog_token.specs.Bytes.{is_solid, is_x, is_z, radix_of}
pub use Rattle.vlog_token.specs.Kinds.{Behind, Fits, IsLongest, IsName, IsQuoted, IsSolid, IsStringItem}
pub use Rattle.vlog_token.specs.Names.{IsStringValue, escape_byte, item_byte, string_bytes, unescaped}
pub use Rattle.vlog_token.specs.Numbers.{NumberMeaning, decimal_value, digits_number, filled, number_of, plane_digit, positional, value_digit, x_digit, z_digit}
pub use Rattle.vlog_token.specs.Pieces.{EndsLine, Gap, HasValue, IsBadCharacter, IsBadNumber, IsBlank, IsBlockComment, IsGap, IsHere, IsLineComment, IsOpenComment, IsOpenString, IsTokenHere}
pub use Rattle.vlog_token.specs.Pieces.{NoneCloses, NoneFits, Piece, Word, begins_comment, begins_gap, bytes_of}
pub use Rattle.vlog_token.specs.Places.{next_place, place_after, place_moved}
pub use Rattle.vlog_token.specs.Reading.{FindsFront, IsBodyOf, IsFaultOf, IsFirstClose, IsLongestFront, LacksValue, NoFront, base_length, fault_without, kind_from, length_behind_size, length_in_base}
pub use Rattle.vlog_token.specs.Reading.{letter_length, piece_of, shape_length, string_end, symbol_length, tokens_in}
pub use Rattle.vlog_token.specs.Shapes.{IsBase, IsDigits, IsLettered, IsShape}
pub use Rattle.vlog_token.specs.Sources.{AllStand, IsAnswer, SeenToken, StopsAt, seen, source_of, tokens_among}
pub use Rattle.vlog_token.specs.Symbols.{IsSymbol, doubles, seconds, singles}
pub use Rattle.vlog_token.specs.declared.token.TokenKind.{TokenKind}
pub use Rattle.vlog_token.specs.declared.token.TokenKind.TheVariants.{Directive, Escaped, Name, Number, String, Symbol, System}
