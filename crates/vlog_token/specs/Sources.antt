-- A source and its tokens: pieces one after the other, each of which stands at its place.
use Rattle.std.specs.Prelude.{◌≡◌, ℕ, List, [], ◌∷◌, ◌++◌, Result, Ok, Err, ⊤}
use Rattle.mcy_base.specs.declared.span.Span.{Span}
use Rattle.vlog_token.specs.declared.token.Token.{Token}
use Rattle.vlog_token.specs.declared.token.TokenKind.{TokenKind}
use Rattle.vlog_token.specs.declared.token.TokenError.{TokenError}
use Rattle.vlog_token.specs.declared.token.TokenError.TheVariants.{BadCharacter, OpenComment, OpenString, BadNumber, Memory}
use Rattle.vlog_token.specs.Places.{place_after}
use Rattle.vlog_token.specs.Pieces.{Piece, Gap, Word, bytes_of, IsHere, IsBadCharacter, IsOpenComment, IsOpenString, IsBadNumber}

-- a token, without where its text lies in memory
pub record SeenToken : Type 0 where
  pub kind : TokenKind
  pub text : List ℕ
  pub span : Span

abbrev pub seen : Token → SeenToken
seen t = record { kind = t.kind; text = t.text.now; span = t.span }

-- the bytes of the pieces, in order
abbrev pub source_of : List Piece → List ℕ
source_of [] = []
source_of (p ∷ ps) = bytes_of p ++ source_of ps

-- each piece stands in front of what follows it
abbrev pub AllStand : List Piece → List ℕ → Type 0
AllStand [] rest = ⊤
AllStand (p ∷ ps) rest = IsHere p (source_of ps ++ rest) × AllStand ps rest

-- the tokens among the pieces, each at the place of its first byte, where the pieces stand behind `before`
abbrev pub tokens_among : ℕ → List ℕ → List Piece → List SeenToken
tokens_among file before [] = []
tokens_among file before (Gap bytes ∷ ps) = tokens_among file (before ++ bytes) ps
tokens_among file before (Word kind text ∷ ps) =
    record { kind = kind; text = text; span = place_after file before } ∷ tokens_among file (before ++ text) ps

-- The source is these tokens, and blanks and comments between them.
pub record AreTokensOf (file : ℕ) (source : List ℕ) (tokens : List SeenToken) : Type 0 where
  pub pieces : List Piece
  pub parts : source_of pieces ≡ source
  pub stand : AllStand pieces []
  pub are : tokens ≡ tokens_among file [] pieces

-- Pieces stand up to this place, and there the bytes that are left are such.
pub record StopsAt (file : ℕ) (source : List ℕ) (at : Span) (IsFault : List ℕ → Type 0) : Type 0 where
  pub pieces : List Piece
  pub rest : List ℕ
  pub parts : source_of pieces ++ rest ≡ source
  pub stand : AllStand pieces rest
  pub place : at ≡ place_after file (source_of pieces)
  pub fault : IsFault rest

-- why the source has no tokens
abbrev pub IsRefusal : ℕ → List ℕ → TokenError → Type 0
IsRefusal file source (BadCharacter at) = StopsAt file source at IsBadCharacter
IsRefusal file source (OpenComment at) = StopsAt file source at IsOpenComment
IsRefusal file source (OpenString at) = StopsAt file source at IsOpenString
IsRefusal file source (BadNumber at) = StopsAt file source at IsBadNumber
IsRefusal file source Memory = ⊤

-- the answer on a source
abbrev pub IsAnswer : ℕ → List ℕ → Result (List SeenToken) TokenError → Type 0
IsAnswer file source (Ok tokens) = AreTokensOf file source tokens
IsAnswer file source (Err e) = IsRefusal file source e
