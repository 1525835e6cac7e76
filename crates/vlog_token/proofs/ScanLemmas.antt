-- The pieces that were cut off so far, and one piece more.
use Rattle.vlog_token.proofs.Common.{◌≡◌, ℕ, ◌+◌, ◌^◌, ◌<◌, List, [], ◌∷◌, ◌++◌, length, refl, sym, ap, ◌∙◌, subst, arith, append_assoc, append-nil, length-append, inl, inr, IsUtf8, Option, Some}
use Rattle.vlog_token.proofs.Common.{None, Span, TokenKind, place_after, place_moved, Piece, Gap, Word, bytes_of, IsBlank, IsGap, IsHere, AllStand, SeenToken, source_of, tokens_among, piece_of}
use Rattle.vlog_token.proofs.Common.{tokens_in}
use Rattle.vlog_token.proofs.KindLemmas.{fits_begins}
use Rattle.vlog_token.proofs.PlaceLemmas.{col_within, line_within, moved_place}

pub source_push : (ps : List Piece) (p : Piece) → source_of (ps ++ p ∷ []) ≡ source_of ps ++ bytes_of p
source_push [] p = append-nil (bytes_of p)
source_push (q ∷ ps) p = ap (λ s. bytes_of q ++ s) (source_push ps p) ∙ sym (append_assoc (bytes_of q) (source_of ps) (bytes_of p))

stand_push : (ps : List Piece) (p : Piece) (rest : List ℕ) → AllStand ps (bytes_of p ++ rest) → IsHere p rest → AllStand (ps ++ p ∷ []) rest
stand_push [] p rest stand here = (here, tt)
stand_push (q ∷ ps) p rest stand here =
    let behind : source_of (ps ++ p ∷ []) ++ rest ≡ source_of ps ++ (bytes_of p ++ rest) = ap (λ s. s ++ rest) (source_push ps p) ∙ append_assoc (source_of ps) (bytes_of p) rest in
    (subst (IsHere q) (sym behind) stand.0, stand_push ps p rest stand.1 here)

tokens_push : (file : ℕ) (before : List ℕ) (ps : List Piece) (p : Piece) → tokens_among file before (ps ++ p ∷ []) ≡ tokens_among file before ps ++ tokens_among file (before ++ source_of ps) (p ∷ [])
tokens_push file before [] p = ap (λ b. tokens_among file b (p ∷ [])) (sym (append-nil before))
tokens_push file before (Gap bytes ∷ ps) p =
    tokens_push file (before ++ bytes) ps p
    ∙ ap (λ b. tokens_among file (before ++ bytes) ps ++ tokens_among file b (p ∷ [])) (append_assoc before bytes (source_of ps))
tokens_push file before (Word kind text ∷ ps) p =
    ap (λ ts. record { kind = kind; text = text; span = place_after file before } ∷ ts)
    (tokens_push file (before ++ text) ps p
    ∙ ap (λ b. tokens_among file (before ++ text) ps ++ tokens_among file b (p ∷ [])) (append_assoc before text (source_of ps)))

-- The tokens of the pieces in front of the rest, whose place is the span.
pub record Scanned (file : ℕ) (text : List ℕ) (tokens : List SeenToken) (span : Span) (rest : List ℕ) : Type 0 where
  pub pieces : List Piece
  pub parts : source_of pieces ++ rest ≡ text
  pub stand : AllStand pieces rest
  pub are : tokens ≡ tokens_among file [] pieces
  pub place : span ≡ place_after file (source_of pieces)
  pub utf8 : IsUtf8 rest

bytes_are : (kind : Option TokenKind) (bytes : List ℕ) → bytes_of (piece_of kind bytes) ≡ bytes
bytes_are None bytes = refl
bytes_are (Some kind) bytes = refl

tokens_last : (file : ℕ) (before : List ℕ) (kind : Option TokenKind) (bytes : List ℕ) → tokens_among file before (piece_of kind bytes ∷ []) ≡ tokens_in kind bytes (place_after file before)
tokens_last file before None bytes = refl
tokens_last file before (Some kind) bytes = refl

pub one_piece_more : (file : ℕ) (text : List ℕ) (tokens : List SeenToken) (span : Span) (rest front after : List ℕ) (kind : Option TokenKind) → Scanned file text tokens span rest → rest ≡ front ++ after → IsHere (piece_of kind front) after → IsUtf8 after → Scanned file text (tokens ++ tokens_in kind front span) (place_moved span front) after
one_piece_more file text tokens span rest front after kind scanned parts here utf8 =
    let piece = piece_of kind front in
    let pieces = scanned.pieces in
    let bytes = bytes_are kind front in
    let source : source_of (pieces ++ piece ∷ []) ≡ source_of pieces ++ front = source_push pieces piece ∙ ap (λ b. source_of pieces ++ b) bytes in
    record {
      pieces = pieces ++ piece ∷ [];
      parts = ap (λ s. s ++ after) source ∙ append_assoc (source_of pieces) front after ∙ ap (λ r. source_of pieces ++ r) (sym parts) ∙ scanned.parts;
      stand = stand_push pieces piece after (subst (AllStand pieces) (parts ∙ ap (λ b. b ++ after) (sym bytes)) scanned.stand) here;
      are =
          ap (λ ts. ts ++ tokens_in kind front span) scanned.are
          ∙ ap (λ at. tokens_among file [] pieces ++ tokens_in kind front at) scanned.place
          ∙ ap (λ ts. tokens_among file [] pieces ++ ts) (sym (tokens_last file (source_of pieces) kind front))
          ∙ sym (tokens_push file [] pieces piece);
      place = ap (λ at. place_moved at front) scanned.place ∙ moved_place file (source_of pieces) front ∙ ap (place_after file) (sym source);
      utf8 = utf8;
    }

-- a piece has a byte
blank_some : (text : List ℕ) → IsBlank text → 0 < length text
blank_some [] h = absurd h
blank_some (c ∷ cs) h = omega arith

gap_some : (text rest : List ℕ) → IsGap text rest → 0 < length text
gap_some text rest (inl blank) = blank_some text blank
gap_some text rest (inr (inl line)) = subst (λ t. 0 < length t) (sym line.parts) (omega arith)
gap_some text rest (inr (inr block)) = subst (λ t. 0 < length t) (sym block.parts) (omega arith)

pub piece_some : (kind : Option TokenKind) (text rest : List ℕ) → IsHere (piece_of kind text) rest → 0 < length text
piece_some None text rest here = gap_some text rest here
piece_some (Some kind) text rest here = (fits_begins kind text here.fits).0

-- there is room for the places of what is left
pub column_fits : (file : ℕ) (text : List ℕ) (tokens : List SeenToken) (span : Span) (rest front after : List ℕ) → length text < 2 ^ 31 → Scanned file text tokens span rest → rest ≡ front ++ after → span.col + length front < 2 ^ 32
column_fits file text tokens span rest front after short scanned parts =
    let source = source_of scanned.pieces in
    let col : span.col ≡ (place_after file source).col = ap (λ (s : Span). s.col) scanned.place in
    omega (arith, short, col, col_within file source, ap length scanned.parts, length-append source rest, ap length parts, length-append front after)

pub line_fits : (file : ℕ) (text : List ℕ) (tokens : List SeenToken) (span : Span) (rest front after : List ℕ) → length text < 2 ^ 31 → Scanned file text tokens span rest → rest ≡ front ++ after → span.line + length front < 2 ^ 32
line_fits file text tokens span rest front after short scanned parts =
    let source = source_of scanned.pieces in
    let line : span.line ≡ (place_after file source).line = ap (λ (s : Span). s.line) scanned.place in
    omega (arith, short, line, line_within file source, ap length scanned.parts, length-append source rest, ap length parts, length-append front after)
