-- One piece stands at a place, or one fault, and never both.
use Rattle.vlog_token.proofs.Common.{◌≡◌, ℕ, suc, ◌+◌, ◌<◌, ◌≤◌, true, false, not, ◌||◌, ◌&&◌, List, [], ◌∷◌, ◌++◌, length, drop, get_or, refl, sym, ap, ◌∙◌, subst, arith, ⊎_elim, inl, inr}
use Rattle.vlog_token.proofs.Common.{append_assoc, append-nil, length-append, add-zero, Option, Some, None, Result, Ok, Err, ◌==◌, IsSome, cases_lt, or_left, and_left, or_from, append_cancel_left}
use Rattle.vlog_token.proofs.Common.{get_or_append_left, get_or-append-add, is_ascii_digit, nat_tests, Span, TokenKind, Name, Escaped, System, Directive, Number, String, Symbol, is_blank, is_in_line}
use Rattle.vlog_token.proofs.Common.{Fits, number_of, NumberMeaning, place_after, Piece, Gap, Word, bytes_of, begins_gap, EndsLine, HasValue, IsBadCharacter, IsBadNumber, IsBlank, IsBlockComment}
use Rattle.vlog_token.proofs.Common.{IsGap, IsHere, IsLineComment, IsOpenComment, IsOpenString, IsTokenHere, NoneCloses, AllStand, IsAnswer, SeenToken, source_of, StopsAt, tokens_among, kind_from}
use Rattle.vlog_token.specs.declared.token.TokenError.{TokenError}
use Rattle.vlog_token.specs.declared.token.TokenError.TheVariants as errors
use Rattle.vlog_token.proofs.Runs.{run_is, run_length, Stops}
use Rattle.vlog_token.proofs.KindLemmas.{fits_begins, front_kind}
use Rattle.vlog_token.proofs.TokenLemmas.{same_kind}
use Rattle.vlog_token.proofs.ScanLemmas.{piece_some}

-- the same length in front of the same bytes: the same bytes
same_front : (xs ys a b : List ℕ) → xs ++ a ≡ ys ++ b → length xs ≡ length ys → xs ≡ ys
same_front [] [] a b e long = refl
same_front [] (y ∷ ys) a b e long = absurd (omega (arith, long))
same_front (x ∷ xs) [] a b e long = absurd (omega (arith, long))
same_front (x ∷ xs) (y ∷ ys) a b e long =
    let first : x ≡ y = ap (λ (l : List ℕ). get_or l 0 0) e in
    let rest : xs ≡ ys = same_front xs ys a b (ap (drop 1) e) (let l : suc (length xs) ≡ suc (length ys) = long in omega (arith, l)) in
    λ i. first i ∷ rest i

false_true : {P : Type 0} → false ≡ true → P
false_true h = cc

-- a gap begins as a gap does
blank_begins : (text rest : List ℕ) → IsBlank text → begins_gap (text ++ rest) ≡ true
blank_begins [] rest h = absurd h
blank_begins (c ∷ []) rest h = or_left (is_blank c) _ h
blank_begins (c ∷ d ∷ ds) rest h = absurd h

gap_begins : (text rest : List ℕ) → IsGap text rest → begins_gap (text ++ rest) ≡ true
gap_begins text rest (inl blank) = blank_begins text rest blank
gap_begins text rest (inr (inl line)) = ap (λ t. begins_gap (t ++ rest)) line.parts
gap_begins text rest (inr (inr block)) = ap (λ t. begins_gap (t ++ rest)) block.parts

-- two line comments at a place are one
ends_stops : (rest : List ℕ) → EndsLine rest → Stops is_in_line rest
ends_stops [] h = tt
ends_stops (c ∷ cs) h = ap not h

line_same : (xs ys a b : List ℕ) → IsLineComment xs a → IsLineComment ys b → xs ++ a ≡ ys ++ b → xs ≡ ys
line_same xs ys a b f g e =
    let bodies : f.body ++ a ≡ g.body ++ b = ap (drop 2) (ap (λ t. t ++ a) (sym f.parts) ∙ e ∙ ap (λ t. t ++ b) g.parts) in
    let long : length f.body ≡ length g.body =
    sym (run_is is_in_line f.body a f.of_the_line (ends_stops a f.to_its_end))
    ∙ run_length is_in_line (f.body ++ a) g.body b g.of_the_line (ends_stops b g.to_its_end) bodies in
    f.parts ∙ ap (λ t. 47 ∷ 47 ∷ t) (same_front f.body g.body a b bodies long) ∙ sym g.parts

-- the close behind a body
close_behind : (body rest : List ℕ) → (get_or (body ++ 42 ∷ 47 ∷ rest) (length body) 0 ≡ 42) × (get_or (body ++ 42 ∷ 47 ∷ rest) (length body + 1) 0 ≡ 47)
close_behind body rest = (
  ap (λ n. get_or (body ++ 42 ∷ 47 ∷ rest) n 0) (sym (add-zero (length body))) ∙ get_or-append-add body (42 ∷ 47 ∷ rest) 0 0,
  get_or-append-add body (42 ∷ 47 ∷ rest) 1 0,
)

-- a body without a close isn't longer than the way to a close
not_past : (body more : List ℕ) (n : ℕ) → NoneCloses body → get_or (body ++ 42 ∷ more) n 0 ≡ 42 → get_or (body ++ 42 ∷ more) (n + 1) 0 ≡ 47 → length body ≤ n
not_past body more n none star slash =
    ⊎_elim
    (λ inside.
    ⊎_elim
    (λ both. absurd (none n (sym (get_or_append_left body (42 ∷ more) 0 n inside) ∙ star) (sym (get_or_append_left body (42 ∷ more) 0 (n + 1) both) ∙ slash)))
    (λ last.
    let at : n + 1 ≡ length body + 0 = omega (arith, inside, last) in
    let is : get_or (body ++ 42 ∷ more) (n + 1) 0 ≡ 42 = ap (λ k. get_or (body ++ 42 ∷ more) k 0) at ∙ get_or-append-add body (42 ∷ more) 0 0 in
    absurd (omega (arith, is, slash)))
    (cases_lt (n + 1) (length body)))
    (λ past. past)
    (cases_lt n (length body))

-- two bodies in front of the first close are one
bodies_same : (xs ys a b : List ℕ) → NoneCloses xs → NoneCloses ys → xs ++ 42 ∷ 47 ∷ a ≡ ys ++ 42 ∷ 47 ∷ b → length xs ≡ length ys
bodies_same xs ys a b f g e =
    let here = close_behind xs a in
    let there = close_behind ys b in
    let le = not_past ys (47 ∷ b) (length xs) g (ap (λ l. get_or l (length xs) 0) (sym e) ∙ here.0) (ap (λ l. get_or l (length xs + 1) 0) (sym e) ∙ here.1) in
    let ge = not_past xs (47 ∷ a) (length ys) f (ap (λ l. get_or l (length ys) 0) e ∙ there.0) (ap (λ l. get_or l (length ys + 1) 0) e ∙ there.1) in
    omega (arith, le, ge)

block_same : (xs ys a b : List ℕ) → IsBlockComment xs → IsBlockComment ys → xs ++ a ≡ ys ++ b → xs ≡ ys
block_same xs ys a b f g e =
    let bodies : f.body ++ 42 ∷ 47 ∷ a ≡ g.body ++ 42 ∷ 47 ∷ b =
    sym (append_assoc f.body (42 ∷ 47 ∷ []) a) ∙ ap (drop 2) (ap (λ t. t ++ a) (sym f.parts) ∙ e ∙ ap (λ t. t ++ b) g.parts) ∙ append_assoc g.body (42 ∷ 47 ∷ []) b in
    let same = same_front f.body g.body (42 ∷ 47 ∷ a) (42 ∷ 47 ∷ b) bodies (bodies_same f.body g.body a b f.first_close g.first_close bodies) in
    f.parts ∙ ap (λ t. 47 ∷ 42 ∷ (t ++ 42 ∷ 47 ∷ [])) same ∙ sym g.parts

-- the first byte is a blank
blank_first : (text rest : List ℕ) → IsBlank text → (is_blank (get_or (text ++ rest) 0 0) ≡ true) × (length text ≡ 1)
blank_first [] rest h = absurd h
blank_first (c ∷ []) rest h = (h, refl)
blank_first (c ∷ d ∷ ds) rest h = absurd h

blank_no_slash : {P : Type 0} (bytes text rest : List ℕ) → IsBlank text → bytes ≡ text ++ rest → get_or bytes 0 0 ≡ 47 → P
blank_no_slash bytes text rest blank e slash =
    let is : is_blank 47 ≡ true = ap is_blank (sym slash ∙ ap (λ l. get_or l 0 0) e) ∙ (blank_first text rest blank).0 in false_true is

line_or_block : (xs ys a b : List ℕ) → IsLineComment xs a → IsBlockComment ys → xs ++ a ≡ ys ++ b → ⊥
line_or_block xs ys a b f g e =
    let same : 47 ≡ 42 = ap (λ t. get_or (t ++ a) 1 0) (sym f.parts) ∙ ap (λ l. get_or l 1 0) e ∙ ap (λ t. get_or (t ++ b) 1 0) g.parts in omega (arith, same)

gap_same : (xs ys a b : List ℕ) → IsGap xs a → IsGap ys b → xs ++ a ≡ ys ++ b → xs ≡ ys
gap_same xs ys a b (inl f) (inl g) e = same_front xs ys a b e ((blank_first xs a f).1 ∙ sym (blank_first ys b g).1)
gap_same xs ys a b (inl f) (inr (inl g)) e = blank_no_slash (xs ++ a) xs a f refl (ap (λ l. get_or l 0 0) e ∙ ap (λ t. get_or (t ++ b) 0 0) g.parts)
gap_same xs ys a b (inl f) (inr (inr g)) e = blank_no_slash (xs ++ a) xs a f refl (ap (λ l. get_or l 0 0) e ∙ ap (λ t. get_or (t ++ b) 0 0) g.parts)
gap_same xs ys a b (inr (inl f)) (inl g) e = blank_no_slash (ys ++ b) ys b g refl (ap (λ l. get_or l 0 0) (sym e) ∙ ap (λ t. get_or (t ++ a) 0 0) f.parts)
gap_same xs ys a b (inr (inl f)) (inr (inl g)) e = line_same xs ys a b f g e
gap_same xs ys a b (inr (inl f)) (inr (inr g)) e = absurd (line_or_block xs ys a b f g e)
gap_same xs ys a b (inr (inr f)) (inl g) e = blank_no_slash (ys ++ b) ys b g refl (ap (λ l. get_or l 0 0) (sym e) ∙ ap (λ t. get_or (t ++ a) 0 0) f.parts)
gap_same xs ys a b (inr (inr f)) (inr (inl g)) e = absurd (line_or_block ys xs b a g f (sym e))
gap_same xs ys a b (inr (inr f)) (inr (inr g)) e = block_same xs ys a b f g e

kinds_same : (j k : TokenKind) (xs ys a b : List ℕ) → Fits j xs → Fits k ys → xs ++ a ≡ ys ++ b → j ≡ k
kinds_same j k xs ys a b f g e =
    let both : Some j ≡ Some k = sym (front_kind j xs a (xs ++ a) f refl) ∙ front_kind k ys b (xs ++ a) g e in cc

-- two tokens at a place are one
token_same : (j k : TokenKind) (xs ys a b : List ℕ) → IsTokenHere j xs a → IsTokenHere k ys b → xs ++ a ≡ ys ++ b → (j ≡ k) × (xs ≡ ys)
token_same j k xs ys a b f g e =
    let le = f.longest k ys b g.fits e in
    let ge = g.longest j xs a f.fits (sym e) in
    let long : length xs ≡ length ys = omega (arith, le, ge) in (
      kinds_same j k xs ys a b f.fits g.fits e,
      same_front xs ys a b e long,
    )

piece_same : (p q : Piece) (a b : List ℕ) → IsHere p a → IsHere q b → bytes_of p ++ a ≡ bytes_of q ++ b → p ≡ q
piece_same (Gap xs) (Gap ys) a b f g e = ap Gap (gap_same xs ys a b f g e)
piece_same (Gap xs) (Word k ys) a b f g e = false_true (sym g.no_gap ∙ ap begins_gap (sym e) ∙ gap_begins xs a f)
piece_same (Word j xs) (Gap ys) a b f g e = false_true (sym f.no_gap ∙ ap begins_gap e ∙ gap_begins ys b g)
piece_same (Word j xs) (Word k ys) a b f g e = let same = token_same j k xs ys a b f g e in λ i. Word (same.0 i) (same.1 i)

-- what ends a source or stops it: no piece stands there
abbrev NoPiece : List ℕ → Type 0
NoPiece rest = (p : Piece) (a : List ℕ) → IsHere p a → rest ≡ bytes_of p ++ a → ⊥

piece_length : (p : Piece) (a : List ℕ) → IsHere p a → 0 < length (bytes_of p)
piece_length (Gap bytes) a here = piece_some None bytes a here
piece_length (Word kind text) a here = piece_some (Some kind) text a here

end_stops : (rest : List ℕ) → rest ≡ [] → NoPiece rest
end_stops rest end p a here e =
    absurd (omega (arith, piece_length p a here, length-append (bytes_of p) a, ap length (sym end ∙ e)))

-- the same pieces and the same rest
same_pieces : (ps qs : List Piece) (a b : List ℕ) → AllStand ps a → AllStand qs b → NoPiece a → NoPiece b → source_of ps ++ a ≡ source_of qs ++ b → (ps ≡ qs) × (a ≡ b)
same_pieces [] [] a b f g none no_more e = (refl, e)
same_pieces [] (q ∷ qs) a b f g none no_more e = absurd (none q (source_of qs ++ b) g.0 (e ∙ append_assoc (bytes_of q) (source_of qs) b))
same_pieces (p ∷ ps) [] a b f g none no_more e = absurd (no_more p (source_of ps ++ a) f.0 (sym e ∙ append_assoc (bytes_of p) (source_of ps) a))
same_pieces (p ∷ ps) (q ∷ qs) a b f g none no_more e =
    let whole : bytes_of p ++ (source_of ps ++ a) ≡ bytes_of q ++ (source_of qs ++ b) = sym (append_assoc (bytes_of p) (source_of ps) a) ∙ e ∙ append_assoc (bytes_of q) (source_of qs) b in
    let first = piece_same p q (source_of ps ++ a) (source_of qs ++ b) f.0 g.0 whole in
    let behind : source_of ps ++ a ≡ source_of qs ++ b = append_cancel_left (bytes_of p) (source_of ps ++ a) (source_of qs ++ b) (whole ∙ ap (λ r. bytes_of r ++ (source_of qs ++ b)) (sym first)) in
    let rest = same_pieces ps qs a b f.1 g.1 none no_more behind in
    (λ i. first i ∷ rest.0 i, rest.1)

-- no piece stands where a fault is
word_open_comment : (bytes : List ℕ) → IsOpenComment bytes → begins_gap bytes ≡ true
word_open_comment bytes h = ap begins_gap h.parts

open_comment_stops : (rest : List ℕ) → IsOpenComment rest → NoPiece rest
open_comment_stops rest h (Word kind text) a here e = false_true (sym here.no_gap ∙ ap begins_gap (sym e) ∙ word_open_comment rest h)
open_comment_stops rest h (Gap text) a (inl blank) e = blank_no_slash rest text a blank e (ap (λ l. get_or l 0 0) h.parts)
open_comment_stops rest h (Gap text) a (inr (inl line)) e =
    let same : 42 ≡ 47 = ap (λ l. get_or l 1 0) (sym h.parts ∙ e) ∙ ap (λ t. get_or (t ++ a) 1 0) line.parts in absurd (omega (arith, same))
open_comment_stops rest h (Gap text) a (inr (inr block)) e =
    let bodies : h.body ≡ block.body ++ 42 ∷ 47 ∷ a = ap (drop 2) (sym h.parts ∙ e ∙ ap (λ t. t ++ a) block.parts) ∙ append_assoc block.body (42 ∷ 47 ∷ []) a in
    let close = close_behind block.body a in
    h.never_closed (length block.body) (ap (λ l. get_or l (length block.body) 0) bodies ∙ close.0) (ap (λ l. get_or l (length block.body + 1) 0) bodies ∙ close.1)

-- a gap can't stand where none begins
no_gap_there : {P : Type 0} (rest text a : List ℕ) → begins_gap rest ≡ false → IsGap text a → rest ≡ text ++ a → P
no_gap_there rest text a none gap e = false_true (sym none ∙ ap begins_gap e ∙ gap_begins text a gap)

bad_character_stops : (rest : List ℕ) → IsBadCharacter rest → NoPiece rest
bad_character_stops rest h (Gap text) a here e = no_gap_there rest text a h.no_gap here e
bad_character_stops rest h (Word kind text) a here e = h.no_token kind text a here.fits e

quote_begins : (body : List ℕ) → begins_gap (34 ∷ body) ≡ false
quote_begins [] = refl
quote_begins (c ∷ cs) = refl

quote_no_gap : (rest : List ℕ) → IsOpenString rest → begins_gap rest ≡ false
quote_no_gap rest h = ap begins_gap h.parts ∙ quote_begins h.body

open_string_stops : (rest : List ℕ) → IsOpenString rest → NoPiece rest
open_string_stops rest h (Gap text) a here e = no_gap_there rest text a (quote_no_gap rest h) here e
open_string_stops rest h (Word kind text) a here e =
    let is : kind ≡ String = same_kind (kind_from (get_or rest 0 0)) kind String (front_kind kind text a rest here.fits e) (ap (λ l. kind_from (get_or l 0 0)) h.parts) in
    h.no_string text a (subst (λ k. Fits k text) is here.fits) e

-- a number begins with no blank and no `/`
no_blank : (c : ℕ) → (is_ascii_digit c || c == 39) ≡ true → is_blank c ≡ false
no_blank c h = grind (arith, nat_tests)

no_slash : (c : ℕ) → (is_ascii_digit c || c == 39) ≡ true → (c == 47) ≡ false
no_slash c h = grind (arith, nat_tests)

number_begins_no_gap : (rest : List ℕ) → (is_ascii_digit (get_or rest 0 0) || get_or rest 0 0 == 39) ≡ true → begins_gap rest ≡ false
number_begins_no_gap [] h = refl
number_begins_no_gap (c ∷ []) h = or_from (is_blank c) false (no_blank c h) refl
number_begins_no_gap (c ∷ d ∷ ds) h = or_from (is_blank c) (c == 47 && (d == 47 || d == 42)) (no_blank c h) (and_left (c == 47) (d == 47 || d == 42) (no_slash c h))

-- the longest token is the bad number
number_starts_no_gap : (rest : List ℕ) → IsBadNumber rest → begins_gap rest ≡ false
number_starts_no_gap rest h =
    let begins = fits_begins Number h.text h.shape in
    let first : get_or rest 0 0 ≡ get_or h.text 0 0 = ap (λ l. get_or l 0 0) h.parts ∙ get_or_append_left h.text h.rest 0 0 begins.0 in
    number_begins_no_gap rest (subst (λ c. (is_ascii_digit c || c == 39) ≡ true) (sym first) begins.1)

some_or_none : (o : Option NumberMeaning) → IsSome o → o ≡ None → ⊥
some_or_none None some none = false_true some
some_or_none (Some v) some none = cc

value_is : (kind : TokenKind) (text : List ℕ) → kind ≡ Number → HasValue kind text → number_of text ≡ None → ⊥
value_is Number text is value none = some_or_none (number_of text) value none
value_is Name text is value none = cc
value_is Escaped text is value none = cc
value_is System text is value none = cc
value_is Directive text is value none = cc
value_is String text is value none = cc
value_is Symbol text is value none = cc

bad_number_stops : (rest : List ℕ) → IsBadNumber rest → NoPiece rest
bad_number_stops rest h (Gap text) a here e = no_gap_there rest text a (number_starts_no_gap rest h) here e
bad_number_stops rest h (Word kind text) a here e =
    let whole : text ++ a ≡ h.text ++ h.rest = sym e ∙ h.parts in
    let is = kinds_same kind Number text h.text a h.rest here.fits h.shape whole in
    let le = here.longest Number h.text h.rest h.shape whole in
    let ge = h.longest kind text a here.fits (sym whole) in
    let long : length text ≡ length h.text = omega (arith, le, ge) in
    let same = same_front text h.text a h.rest whole long in
    value_is kind text is here.has_value (ap number_of same ∙ h.no_number)

-- how an answer ends, behind its pieces
abbrev Ending : ℕ → List Piece → List ℕ → Result (List SeenToken) TokenError → Type 0
Ending file ps rest (Ok tokens) = (rest ≡ []) × (tokens ≡ tokens_among file [] ps)
Ending file ps rest (Err (errors.BadCharacter at)) = (at ≡ place_after file (source_of ps)) × IsBadCharacter rest
Ending file ps rest (Err (errors.OpenComment at)) = (at ≡ place_after file (source_of ps)) × IsOpenComment rest
Ending file ps rest (Err (errors.OpenString at)) = (at ≡ place_after file (source_of ps)) × IsOpenString rest
Ending file ps rest (Err (errors.BadNumber at)) = (at ≡ place_after file (source_of ps)) × IsBadNumber rest
Ending file ps rest (Err errors.Memory) = ⊥

-- the pieces of an answer, and how it ends behind them
record Ends (file : ℕ) (source : List ℕ) (answer : Result (List SeenToken) TokenError) : Type 0 where
  pieces : List Piece
  rest : List ℕ
  parts : source_of pieces ++ rest ≡ source
  stand : AllStand pieces rest
  stops : NoPiece rest
  ending : Ending file pieces rest answer

stop_ends : (file : ℕ) (source : List ℕ) (at : Span) (P : List ℕ → Type 0) (answer : Result (List SeenToken) TokenError) → ((rest : List ℕ) → P rest → NoPiece rest) → ((ps : List Piece) (rest : List ℕ) → at ≡ place_after file (source_of ps) → P rest → Ending file ps rest answer) → StopsAt file source at P → Ends file source answer
stop_ends file source at P answer stops ending h = record {
  pieces = h.pieces;
  rest = h.rest;
  parts = h.parts;
  stand = h.stand;
  stops = stops h.rest h.fault;
  ending = ending h.pieces h.rest h.place h.fault;
}

ends_of : (file : ℕ) (source : List ℕ) (a : Result (List SeenToken) TokenError) → IsAnswer file source a → (a ≡ Err errors.Memory → ⊥) → Ends file source a
ends_of file source (Ok tokens) h other = record {
  pieces = h.pieces;
  rest = [];
  parts = append-nil (source_of h.pieces) ∙ h.parts;
  stand = h.stand;
  stops = end_stops [] refl;
  ending = (refl, h.are);
}
ends_of file source (Err (errors.BadCharacter at)) h other = stop_ends file source at IsBadCharacter (Err (errors.BadCharacter at)) bad_character_stops (λ ps rest place fault. (place, fault)) h
ends_of file source (Err (errors.OpenComment at)) h other = stop_ends file source at IsOpenComment (Err (errors.OpenComment at)) open_comment_stops (λ ps rest place fault. (place, fault)) h
ends_of file source (Err (errors.OpenString at)) h other = stop_ends file source at IsOpenString (Err (errors.OpenString at)) open_string_stops (λ ps rest place fault. (place, fault)) h
ends_of file source (Err (errors.BadNumber at)) h other = stop_ends file source at IsBadNumber (Err (errors.BadNumber at)) bad_number_stops (λ ps rest place fault. (place, fault)) h
ends_of file source (Err errors.Memory) h other = absurd (other refl)

-- two ways to end exclude each other
no_bytes : (rest : List ℕ) (c : ℕ) (cs : List ℕ) → rest ≡ [] → rest ≡ c ∷ cs → ⊥
no_bytes rest c cs end e = absurd (omega (arith, ap length (sym end ∙ e)))

nothing_bad : (rest : List ℕ) → rest ≡ [] → IsBadCharacter rest → ⊥
nothing_bad rest end h = let some = h.some in absurd (omega (arith, some, ap length end))

nothing_open : (rest : List ℕ) → rest ≡ [] → IsOpenComment rest → ⊥
nothing_open rest end h = no_bytes rest 47 (42 ∷ h.body) end h.parts

nothing_quoted : (rest : List ℕ) → rest ≡ [] → IsOpenString rest → ⊥
nothing_quoted rest end h = no_bytes rest 34 h.body end h.parts

nothing_number : (rest : List ℕ) → rest ≡ [] → IsBadNumber rest → ⊥
nothing_number rest end h =
    let some = (fits_begins Number h.text h.shape).0 in
    absurd (omega (arith, some, ap length (sym end ∙ h.parts), length-append h.text h.rest))

character_or_comment : (rest : List ℕ) → IsBadCharacter rest → IsOpenComment rest → ⊥
character_or_comment rest f g = false_true (sym f.no_gap ∙ word_open_comment rest g)

character_or_string : (rest : List ℕ) → IsBadCharacter rest → IsOpenString rest → ⊥
character_or_string rest f g = f.no_string (ap (λ l. get_or l 0 0) g.parts)

character_or_number : (rest : List ℕ) → IsBadCharacter rest → IsBadNumber rest → ⊥
character_or_number rest f g = f.no_token Number g.text g.rest g.shape g.parts

comment_or_string : (rest : List ℕ) → IsOpenComment rest → IsOpenString rest → ⊥
comment_or_string rest f g = false_true (sym (quote_no_gap rest g) ∙ word_open_comment rest f)

comment_or_number : (rest : List ℕ) → IsOpenComment rest → IsBadNumber rest → ⊥
comment_or_number rest f g = false_true (sym (number_starts_no_gap rest g) ∙ word_open_comment rest f)

string_or_number : (rest : List ℕ) → IsOpenString rest → IsBadNumber rest → ⊥
string_or_number rest f g =
    let is : Some Number ≡ Some String = sym (front_kind Number g.text g.rest rest g.shape g.parts) ∙ ap (λ l. kind_from (get_or l 0 0)) f.parts in cc

ending_same : (file : ℕ) (ps : List Piece) (rest : List ℕ) (a b : Result (List SeenToken) TokenError) → Ending file ps rest a → Ending file ps rest b → a ≡ b
ending_same file ps rest (Ok x) (Ok y) f g = ap Ok (f.1 ∙ sym g.1)
ending_same file ps rest (Ok x) (Err (errors.BadCharacter y)) f g = absurd (nothing_bad rest f.0 g.1)
ending_same file ps rest (Ok x) (Err (errors.OpenComment y)) f g = absurd (nothing_open rest f.0 g.1)
ending_same file ps rest (Ok x) (Err (errors.OpenString y)) f g = absurd (nothing_quoted rest f.0 g.1)
ending_same file ps rest (Ok x) (Err (errors.BadNumber y)) f g = absurd (nothing_number rest f.0 g.1)
ending_same file ps rest (Err (errors.BadCharacter x)) (Ok y) f g = absurd (nothing_bad rest g.0 f.1)
ending_same file ps rest (Err (errors.BadCharacter x)) (Err (errors.BadCharacter y)) f g = ap (λ at. Err (errors.BadCharacter at)) (f.0 ∙ sym g.0)
ending_same file ps rest (Err (errors.BadCharacter x)) (Err (errors.OpenComment y)) f g = absurd (character_or_comment rest f.1 g.1)
ending_same file ps rest (Err (errors.BadCharacter x)) (Err (errors.OpenString y)) f g = absurd (character_or_string rest f.1 g.1)
ending_same file ps rest (Err (errors.BadCharacter x)) (Err (errors.BadNumber y)) f g = absurd (character_or_number rest f.1 g.1)
ending_same file ps rest (Err (errors.OpenComment x)) (Ok y) f g = absurd (nothing_open rest g.0 f.1)
ending_same file ps rest (Err (errors.OpenComment x)) (Err (errors.BadCharacter y)) f g = absurd (character_or_comment rest g.1 f.1)
ending_same file ps rest (Err (errors.OpenComment x)) (Err (errors.OpenComment y)) f g = ap (λ at. Err (errors.OpenComment at)) (f.0 ∙ sym g.0)
ending_same file ps rest (Err (errors.OpenComment x)) (Err (errors.OpenString y)) f g = absurd (comment_or_string rest f.1 g.1)
ending_same file ps rest (Err (errors.OpenComment x)) (Err (errors.BadNumber y)) f g = absurd (comment_or_number rest f.1 g.1)
ending_same file ps rest (Err (errors.OpenString x)) (Ok y) f g = absurd (nothing_quoted rest g.0 f.1)
ending_same file ps rest (Err (errors.OpenString x)) (Err (errors.BadCharacter y)) f g = absurd (character_or_string rest g.1 f.1)
ending_same file ps rest (Err (errors.OpenString x)) (Err (errors.OpenComment y)) f g = absurd (comment_or_string rest g.1 f.1)
ending_same file ps rest (Err (errors.OpenString x)) (Err (errors.OpenString y)) f g = ap (λ at. Err (errors.OpenString at)) (f.0 ∙ sym g.0)
ending_same file ps rest (Err (errors.OpenString x)) (Err (errors.BadNumber y)) f g = absurd (string_or_number rest f.1 g.1)
ending_same file ps rest (Err (errors.BadNumber x)) (Ok y) f g = absurd (nothing_number rest g.0 f.1)
ending_same file ps rest (Err (errors.BadNumber x)) (Err (errors.BadCharacter y)) f g = absurd (character_or_number rest g.1 f.1)
ending_same file ps rest (Err (errors.BadNumber x)) (Err (errors.OpenComment y)) f g = absurd (comment_or_number rest g.1 f.1)
ending_same file ps rest (Err (errors.BadNumber x)) (Err (errors.OpenString y)) f g = absurd (string_or_number rest g.1 f.1)
ending_same file ps rest (Err (errors.BadNumber x)) (Err (errors.BadNumber y)) f g = ap (λ at. Err (errors.BadNumber at)) (f.0 ∙ sym g.0)
ending_same file ps rest (Ok x) (Err errors.Memory) f g = absurd g
ending_same file ps rest (Err (errors.BadCharacter x)) (Err errors.Memory) f g = absurd g
ending_same file ps rest (Err (errors.OpenComment x)) (Err errors.Memory) f g = absurd g
ending_same file ps rest (Err (errors.OpenString x)) (Err errors.Memory) f g = absurd g
ending_same file ps rest (Err (errors.BadNumber x)) (Err errors.Memory) f g = absurd g
ending_same file ps rest (Err errors.Memory) b f g = absurd f

pub one_answer_only : (file : ℕ) (source : List ℕ) (a b : Result (List SeenToken) TokenError) → IsAnswer file source a → IsAnswer file source b → (a ≡ Err errors.Memory → ⊥) → (b ≡ Err errors.Memory → ⊥) → a ≡ b
one_answer_only file source a b f g some also =
    let first = ends_of file source a f some in
    let second = ends_of file source b g also in
    let same = same_pieces first.pieces second.pieces first.rest second.rest first.stand second.stand first.stops second.stops (first.parts ∙ sym second.parts) in
    let moved : Ending file first.pieces first.rest b = subst (λ r. Ending file first.pieces r b) (sym same.1) (subst (λ ps. Ending file ps second.rest b) (sym same.0) second.ending) in
    ending_same file first.pieces first.rest a b first.ending moved
