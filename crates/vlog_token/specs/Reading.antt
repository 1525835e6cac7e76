-- How a piece is found: what the functions under `tokens` say.
use Rattle.std.specs.Prelude.{◌≡◌, ℕ, ◌+◌, ◌≤◌, ◌<◌, Bool, true, false, ◌||◌, ◌&&◌, ◌==◌, List, [], ◌∷◌, length, take, drop, ◌++◌, slice_index, Option, Some, None, MatchOption, option_map, if◌then◌else◌, IsUtf8}
use Rattle.std.specs.List.{prefix_len}
use Rattle.std.specs.Char.{is_ascii_digit}
use Rattle.vlog_token.specs.declared.token.TokenKind.{TokenKind}
use Rattle.vlog_token.specs.declared.token.TokenKind.TheVariants.{Name, Escaped, System, Directive, Number, String, Symbol}
use Rattle.vlog_token.specs.declared.part.Part.{Part}
use Rattle.vlog_token.specs.declared.scan.Cut.{Cut}
use Rattle.vlog_token.specs.declared.part.Fault.{Fault}
use Rattle.vlog_token.specs.declared.token.TokenError.{TokenError}
use Rattle.vlog_token.specs.declared.token.TokenError.TheVariants as errors
use Rattle.mcy_base.specs.declared.span.Span.{Span}
use Rattle.vlog_token.specs.declared.part.Fault.TheVariants.{BadCharacter, OpenComment, OpenString, BadNumber}
use Rattle.vlog_token.specs.Bytes.{is_decimal_part, is_digit_part, is_escape, is_name_start, is_among, is_sign, radix_of}
use Rattle.vlog_token.specs.Symbols.{doubles, seconds, singles}
use Rattle.vlog_token.specs.Kinds.{IsName, IsQuoted, IsSolid}
use Rattle.vlog_token.specs.Numbers.{number_of}
use Rattle.vlog_token.specs.Sources.{SeenToken}
use Rattle.vlog_token.specs.Pieces.{Piece, Gap, Word, IsHere, IsBadCharacter, IsOpenComment, IsOpenString, IsBadNumber}

-- For proofs alone.

-- the first n bytes are the longest front of such a form
pub record IsLongestFront (P : List ℕ → Type 0) (bytes : List ℕ) (n : ℕ) : Type 0 where
  pub within : n ≤ length bytes
  pub fits : P (take n bytes)
  pub longest : (text more : List ℕ) → P text → bytes ≡ text ++ more → length text ≤ n

-- no front of the bytes is of such a form
abbrev pub NoFront : (List ℕ → Type 0) → List ℕ → Type 0
NoFront P bytes = (text more : List ℕ) → P text → bytes ≡ text ++ more → ⊥

-- the length of the longest front of such a form, if there is one
abbrev pub FindsFront : (List ℕ → Type 0) → List ℕ → Option ℕ → Type 0
FindsFront P bytes found = MatchOption found (NoFront P bytes) (IsLongestFront P bytes)

-- what stands behind the first byte of a token that this byte marks
abbrev pub IsBodyOf : TokenKind → List ℕ → Type 0
IsBodyOf String text = IsQuoted text
IsBodyOf Escaped text = IsSolid text
IsBodyOf System text = IsName text
IsBodyOf Directive text = IsName text
IsBodyOf _ text = ⊥

-- the length of the longest symbol
abbrev pub symbol_length : List ℕ → ℕ
symbol_length (a ∷ b ∷ c ∷ rest) =
    if is_among (doubles a) b && c == b then 3 else (if is_among (seconds a) b then 2 else 1)
symbol_length (a ∷ b ∷ []) = if is_among (seconds a) b then 2 else 1
symbol_length _ = 1

-- how many bytes the digits have behind the letter of a base, with the letter
abbrev pub length_in_base : List ℕ → Option ℕ → ℕ
length_in_base bytes None = 0
length_in_base bytes (Some radix) = 1 + prefix_len (is_digit_part radix) bytes

abbrev pub letter_length : List ℕ → ℕ
letter_length [] = 0
letter_length (c ∷ cs) = length_in_base cs (radix_of c)

abbrev pub base_length : List ℕ → ℕ
base_length [] = 0
base_length (c ∷ cs) = if is_sign c then 1 + letter_length cs else letter_length (c ∷ cs)

-- how many bytes a number's shape has from its `'` on
abbrev pub length_behind_size : List ℕ → ℕ
length_behind_size [] = 0
length_behind_size (c ∷ cs) = if c == 39 then 1 + base_length cs else 0

abbrev pub shape_length : List ℕ → ℕ
shape_length bytes = let size = prefix_len is_decimal_part bytes in size + length_behind_size (drop size bytes)

-- how many bytes of a string there are up to its closing `"`, behind a `\` that begins an escape or not
abbrev pub string_end : Bool → List ℕ → Option ℕ
string_end is_escaped [] = None
string_end true (c ∷ cs) = if is_escape c then option_map (λ n. 1 + n) (string_end false cs) else None
string_end false (c ∷ cs) =
    if c == 34 then Some 1
    else (if c == 10 then None
    else option_map (λ n. 1 + n) (string_end (c == 92) cs))

-- the first `*/` is at this place
pub record IsFirstClose (bytes : List ℕ) (at : ℕ) : Type 0 where
  pub within : at + 1 < length bytes
  pub star : slice_index bytes at ≡ 42
  pub slash : slice_index bytes (at + 1) ≡ 47
  pub before : (k : ℕ) → k < at → slice_index bytes k ≡ 42 → slice_index bytes (k + 1) ≡ 47 → ⊥

-- the only kind of token that may begin with this byte
abbrev pub kind_from : ℕ → Option TokenKind
kind_from c =
    if is_name_start c then Some Name
    else (if is_ascii_digit c || c == 39 then Some Number
    else (if is_among singles c then Some Symbol
    else (if c == 34 then Some String
    else (if c == 92 then Some Escaped
    else (if c == 36 then Some System
    else (if c == 96 then Some Directive
    else None))))))

-- a text with the shape of a number is none
abbrev pub LacksValue : TokenKind → List ℕ → Type 0
LacksValue Number text = number_of text ≡ None
LacksValue _ text = ⊥

-- the fault where no token of the kind is
abbrev pub fault_without : TokenKind → Fault
fault_without String = OpenString
fault_without _ = BadCharacter

-- the piece of these bytes, which is a token where it has a kind
abbrev pub piece_of : Option TokenKind → List ℕ → Piece
piece_of None bytes = Gap bytes
piece_of (Some kind) bytes = Word kind bytes

-- the part stands in front of the bytes
abbrev pub IsPartOf : List ℕ → Part → Type 0
IsPartOf bytes part = (part.len ≤ length bytes) × IsHere (piece_of part.kind (take part.len bytes)) (drop part.len bytes)

-- a piece is cut off the bytes
pub record IsCutOf (bytes : List ℕ) (cut : Cut) : Type 0 where
  pub parts : bytes ≡ cut.text.now ++ cut.rest.now
  pub here : IsHere (piece_of cut.kind cut.text.now) cut.rest.now
  pub utf8 : IsUtf8 cut.rest.now

-- the token of these bytes, where they have a kind
abbrev pub tokens_in : Option TokenKind → List ℕ → Span → List SeenToken
tokens_in None bytes span = []
tokens_in (Some kind) bytes span = record { kind = kind; text = bytes; span = span } ∷ []

-- the fault of the bytes
abbrev pub IsFaultOf : List ℕ → Fault → Type 0
IsFaultOf bytes BadCharacter = IsBadCharacter bytes
IsFaultOf bytes OpenComment = IsOpenComment bytes
IsFaultOf bytes OpenString = IsOpenString bytes
IsFaultOf bytes BadNumber = IsBadNumber bytes

-- the error of a fault at a place
abbrev pub error_of : Fault → Span → TokenError
error_of BadCharacter span = errors.BadCharacter span
error_of OpenComment span = errors.OpenComment span
error_of OpenString span = errors.OpenString span
error_of BadNumber span = errors.BadNumber span
