-- What stands at a place of a source: a blank, a comment or a token, or a fault.
use Rattle.std.specs.Prelude.{◌≡◌, ◌≢◌, ℕ, ◌+◌, ◌<◌, Bool, true, false, ◌&&◌, ◌||◌, ◌==◌, ◌⊎◌, List, [], ◌∷◌, ◌++◌, length, slice_index, None, IsSome}
use Rattle.vlog_token.specs.declared.token.TokenKind.{TokenKind}
use Rattle.vlog_token.specs.declared.token.TokenKind.TheVariants.{Number, String}
use Rattle.vlog_token.specs.Bytes.{AllAre, is_blank, is_newline, is_in_line}
use Rattle.vlog_token.specs.Kinds.{Fits, IsLongest}
use Rattle.vlog_token.specs.Numbers.{number_of}

-- a piece of a source: a blank or a comment, or a token
pub data Piece : Type 0 where
  Gap : List ℕ → Piece
  Word : TokenKind → List ℕ → Piece

abbrev pub bytes_of : Piece → List ℕ
bytes_of (Gap bytes) = bytes
bytes_of (Word kind text) = text

abbrev pub IsBlank : List ℕ → Type 0
IsBlank (c ∷ []) = is_blank c ≡ true
IsBlank _ = ⊥

-- the text ends here, or the line does
abbrev pub EndsLine : List ℕ → Type 0
EndsLine [] = Unit {0}
EndsLine (c ∷ rest) = is_newline c ≡ true

-- `//` and what follows of its line
pub record IsLineComment (text rest : List ℕ) : Type 0 where
  pub body : List ℕ
  pub parts : text ≡ 47 ∷ 47 ∷ body
  pub of_the_line : AllAre is_in_line body
  pub to_its_end : EndsLine rest

-- no `*/` stands in these bytes
abbrev pub NoneCloses : List ℕ → Type 0
NoneCloses bytes = (k : ℕ) → slice_index bytes k ≡ 42 → slice_index bytes (k + 1) ≡ 47 → ⊥

-- `/*`, and what follows up to the first `*/`
pub record IsBlockComment (text : List ℕ) : Type 0 where
  pub body : List ℕ
  pub parts : text ≡ 47 ∷ 42 ∷ (body ++ 42 ∷ 47 ∷ [])
  pub first_close : NoneCloses body

-- one blank, or one comment
abbrev pub IsGap : List ℕ → List ℕ → Type 0
IsGap text rest = IsBlank text ⊎ (IsLineComment text rest ⊎ IsBlockComment text)

-- a blank begins here, or a comment
abbrev pub begins_comment : List ℕ → Bool
begins_comment (a ∷ b ∷ rest) = a == 47 && (b == 47 || b == 42)
begins_comment _ = false

abbrev pub begins_blank : List ℕ → Bool
begins_blank [] = false
begins_blank (c ∷ rest) = is_blank c

abbrev pub begins_gap : List ℕ → Bool
begins_gap text = begins_blank text || begins_comment text

-- a number has a value
abbrev pub HasValue : TokenKind → List ℕ → Type 0
HasValue Number text = IsSome (number_of text)
HasValue _ text = Unit {0}

-- A token of this kind and text stands here: no comment does, and the text is the longest that fits.
pub record IsTokenHere (kind : TokenKind) (text rest : List ℕ) : Type 0 where
  pub no_gap : begins_gap (text ++ rest) ≡ false
  pub fits : Fits kind text
  pub longest : IsLongest text rest
  pub has_value : HasValue kind text

-- the piece stands in front of the rest
abbrev pub IsHere : Piece → List ℕ → Type 0
IsHere (Gap bytes) rest = IsGap bytes rest
IsHere (Word kind text) rest = IsTokenHere kind text rest

-- no front of these bytes is of this kind
abbrev pub NoneFits : TokenKind → List ℕ → Type 0
NoneFits kind bytes = (text more : List ℕ) → Fits kind text → bytes ≡ text ++ more → ⊥

-- `/*` without `*/` behind it
pub record IsOpenComment (bytes : List ℕ) : Type 0 where
  pub body : List ℕ
  pub parts : bytes ≡ 47 ∷ 42 ∷ body
  pub never_closed : NoneCloses body

-- `"` where no string stands
pub record IsOpenString (bytes : List ℕ) : Type 0 where
  pub body : List ℕ
  pub parts : bytes ≡ 34 ∷ body
  pub no_string : NoneFits String bytes

-- The longest text that has the shape of a number is no number.
pub record IsBadNumber (bytes : List ℕ) : Type 0 where
  pub text : List ℕ
  pub rest : List ℕ
  pub parts : bytes ≡ text ++ rest
  pub shape : Fits Number text
  pub longest : IsLongest text rest
  pub no_number : number_of text ≡ None

-- There is a byte, no blank, no comment and no string begins with it, and no token fits.
pub record IsBadCharacter (bytes : List ℕ) : Type 0 where
  pub some : 0 < length bytes
  pub no_gap : begins_gap bytes ≡ false
  pub no_string : slice_index bytes 0 ≢ 34
  pub no_token : (kind : TokenKind) → NoneFits kind bytes
