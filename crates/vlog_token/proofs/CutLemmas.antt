-- A text may be cut behind each piece: its last byte is ASCII, or the next one is.
use Rattle.vlog_token.proofs.Common.{◌≡◌, ℕ, ◌+◌, ◌<◌, ◌≤◌, Bool, true, false, cond, not, ◌||◌, ◌⊎◌, List, [], ◌∷◌, ◌++◌, length, take, drop, get_or, refl, sym, ap, ◌∙◌, subst, arith, ⊎_elim, inl}
use Rattle.vlog_token.proofs.Common.{inr, append_assoc, length-append, IsUtf8, append-nil, add-zero, take-append-drop, length-take-le, Option, Some, None, ◌==◌, codes, nat_lt, list_all, concat}
use Rattle.vlog_token.proofs.Common.{eqb-true, ltb-true, or_cases, nat_tests, get_or-append-add, get_or_append_left, TokenKind, Name, Escaped, System, Directive, Number, String, Symbol, AllAre}
use Rattle.vlog_token.proofs.Common.{is_among, is_blank, is_decimal_part, is_digit_part, is_name_part, is_sign, is_solid, radix_of, IsSymbol, doubles, seconds, singles, IsBase, IsDigits, IsLettered}
use Rattle.vlog_token.proofs.Common.{IsShape, Behind, Fits, IsLongest, IsName, IsSolid, IsBlank, IsGap, IsHere, EndsLine, piece_of}
use Rattle.std.specs.Str.{IsCharBoundary}
use Rattle.std.proofs.lemmas.Str.{IsCharBoundary-after_ascii, IsCharBoundary-before_ascii, IsCharBoundary-end}
use Rattle.vlog_token.proofs.Fronts.{parts_of_name}
use Rattle.vlog_token.proofs.KindLemmas.{among_passes}
use Rattle.vlog_token.proofs.ShapeFronts.{digits_parts}

-- the bytes have a last one, which is ASCII
abbrev pub EndsInAscii : List ℕ → Type 0
EndsInAscii [] = ⊥
EndsInAscii (c ∷ []) = c < 128
EndsInAscii (c ∷ d ∷ ds) = EndsInAscii (d ∷ ds)

ends_after : (xs ys : List ℕ) → EndsInAscii ys → EndsInAscii (xs ++ ys)
ends_after [] ys h = h
ends_after (x ∷ []) [] h = absurd h
ends_after (x ∷ []) (y ∷ ys) h = h
ends_after (x ∷ z ∷ zs) ys h = ends_after (z ∷ zs) ys h

ends_all : (p : ℕ → Bool) → ((c : ℕ) → p c ≡ true → c < 128) → (c : ℕ) (cs : List ℕ) → AllAre p (c ∷ cs) → EndsInAscii (c ∷ cs)
ends_all p small c [] h = small c h.0
ends_all p small c (d ∷ ds) h = ends_all p small d ds h.1

name_ascii : (c : ℕ) → is_name_part c ≡ true → c < 128
name_ascii c h = grind (arith, nat_tests)

decimal_ascii : (c : ℕ) → is_decimal_part c ≡ true → c < 128
decimal_ascii c h = grind (arith, nat_tests)

sign_ascii : (c : ℕ) → is_sign c ≡ true → c < 128
sign_ascii c h = grind (arith, nat_tests)

blank_ascii : (c : ℕ) → is_blank c ≡ true → c < 128
blank_ascii c h = grind (arith, nat_tests)

letter_ascii : (c a b : ℕ) → nat_lt a 128 ≡ true → nat_lt b 128 ≡ true → (c == a || c == b) ≡ true → c < 128
letter_ascii c a b small also h =
    ⊎_elim
    (λ is. subst (λ d. d < 128) (sym (eqb-true c a is)) (ltb-true a 128 small))
    (λ is. subst (λ d. d < 128) (sym (eqb-true c b is)) (ltb-true b 128 also))
    (or_cases (c == a) (c == b) h)

test_radix : (t : Bool) (c radix n : ℕ) (o : Option ℕ) → (t ≡ true → c < 128) → n ≤ 16 → (o ≡ Some radix → (c < 128) × (radix ≤ 16)) → cond t (Some n) o ≡ Some radix → (c < 128) × (radix ≤ 16)
test_radix true c radix n o ascii small others is = let same : n ≡ radix = cc in (ascii refl, subst (λ r. r ≤ 16) same small)
test_radix false c radix n o ascii small others is = others is

is_or_not : (b : Bool) → (b ≡ true) ⊎ (not b ≡ true)
is_or_not true = inl refl
is_or_not false = inr refl

-- the letter of a base is ASCII, and its radix is small
radix_small : (c radix : ℕ) → radix_of c ≡ Some radix → (c < 128) × (radix ≤ 16)
radix_small c radix =
    test_radix (c == 98 || c == 66) c radix 2 _ (letter_ascii c 98 66 refl refl) (omega arith)
    (test_radix (c == 111 || c == 79) c radix 8 _ (letter_ascii c 111 79 refl refl) (omega arith)
    (test_radix (c == 100 || c == 68) c radix 10 _ (letter_ascii c 100 68 refl refl) (omega arith)
    (test_radix (c == 104 || c == 72) c radix 16 None (letter_ascii c 104 72 refl refl) (omega arith)
    (λ is. let bad : None ≡ Some radix = is in cc))))

digit_ascii : (radix : ℕ) → radix ≤ 16 → (c : ℕ) → is_digit_part radix c ≡ true → c < 128
digit_ascii radix small c h = grind (arith, nat_tests)

name_ends : (text : List ℕ) → IsName text → EndsInAscii text
name_ends [] h = absurd h
name_ends (c ∷ cs) h = ends_all is_name_part name_ascii c cs (parts_of_name (c ∷ cs) h)

digits_end : (text : List ℕ) → IsDigits text → EndsInAscii text
digits_end [] h = absurd h
digits_end (c ∷ cs) h = ends_all is_decimal_part decimal_ascii c cs (digits_parts (c ∷ cs) h)

-- a base ends in ASCII, also behind the byte in front of it
lettered_ends : (c : ℕ) (cs : List ℕ) → c < 128 → IsLettered cs → EndsInAscii (c ∷ cs)
lettered_ends c [] small h = small
lettered_ends c (d ∷ []) small h = (radix_small d h.0 h.1).0
lettered_ends c (d ∷ e ∷ es) small h = ends_all (is_digit_part h.0) (digit_ascii h.0 (radix_small d h.0 h.1).1) e es h.2

base_ends : (c : ℕ) (cs : List ℕ) → c < 128 → IsBase cs → EndsInAscii (c ∷ cs)
base_ends c [] small h = small
base_ends c (d ∷ ds) small (inl signed) = lettered_ends d ds (sign_ascii d signed.0) signed.1
base_ends c (d ∷ ds) small (inr lettered) = lettered_ends c (d ∷ ds) small lettered

shape_ends : (text : List ℕ) → IsShape text → EndsInAscii text
shape_ends text (inl digits) = digits_end text digits
shape_ends text (inr sized) = subst EndsInAscii (sym sized.parts) (ends_after sized.size (39 ∷ sized.base) (base_ends 39 sized.base (omega arith) sized.is_base))

small_among : (cs : List ℕ) (b : ℕ) → list_all (λ c. nat_lt c 128) cs ≡ true → is_among cs b ≡ true → b < 128
small_among cs b all h = ltb-true b 128 (among_passes (λ c. nat_lt c 128) cs b all h)

test_small : (t : Bool) (b : ℕ) (xs ys : List ℕ) → (is_among xs b ≡ true → b < 128) → (is_among ys b ≡ true → b < 128) → is_among (cond t xs ys) b ≡ true → b < 128
test_small true b xs ys here others h = here h
test_small false b xs ys here others h = others h

seconds_ascii : (a b : ℕ) → is_among (seconds a) b ≡ true → b < 128
seconds_ascii a b =
    test_small (a == 43) b (codes ":") _ (small_among (codes ":") b refl)
    (test_small (a == 45) b (codes ":>") _ (small_among (codes ":>") b refl)
    (test_small (a == 42) b (codes "*>") _ (small_among (codes "*>") b refl)
    (test_small (a == 61) b (codes "=>") _ (small_among (codes "=>") b refl)
    (test_small (a == 33) b (codes "=") _ (small_among (codes "=") b refl)
    (test_small (a == 60) b (codes "=<") _ (small_among (codes "=<") b refl)
    (test_small (a == 62) b (codes "=>") _ (small_among (codes "=>") b refl)
    (test_small (a == 38) b (codes "&") _ (small_among (codes "&") b refl)
    (test_small (a == 124) b (codes "|") _ (small_among (codes "|") b refl)
    (test_small (a == 126) b (codes "&|^") _ (small_among (codes "&|^") b refl)
    (test_small (a == 94) b (codes "~") _ (small_among (codes "~") b refl)
    (λ h. let bad : false ≡ true = h in cc)))))))))))

doubles_ascii : (a b : ℕ) → is_among (doubles a) b ≡ true → b < 128
doubles_ascii a b =
    test_small (a == 61) b (codes "=") _ (small_among (codes "=") b refl)
    (test_small (a == 33) b (codes "=") _ (small_among (codes "=") b refl)
    (test_small (a == 60) b (codes "<") _ (small_among (codes "<") b refl)
    (test_small (a == 62) b (codes ">") _ (small_among (codes ">") b refl)
    (test_small (a == 38) b (codes "&") _ (small_among (codes "&") b refl)
    (λ h. let bad : false ≡ true = h in cc)))))

symbol_ends : (text : List ℕ) → IsSymbol text → EndsInAscii text
symbol_ends [] h = absurd h
symbol_ends (a ∷ []) h = small_among singles a refl h
symbol_ends (a ∷ b ∷ []) h = seconds_ascii a b h
symbol_ends (a ∷ b ∷ c ∷ []) h = subst (λ d. d < 128) (sym h.1) (doubles_ascii a b h.0)
symbol_ends (a ∷ b ∷ c ∷ d ∷ ds) h = absurd h

behind_ends : (m : ℕ) (P : List ℕ → Type 0) → ((text : List ℕ) → P text → EndsInAscii text) → (text : List ℕ) → Behind m P text → EndsInAscii text
behind_ends m P ends [] h = absurd h
behind_ends m P ends (c ∷ cs) h = ends_after (c ∷ []) cs (ends cs h.1)

-- where the text may be cut
abbrev CutAt : List ℕ → List ℕ → Type 0
CutAt text rest = IsCharBoundary (text ++ rest) (length text)

last_of : (c : ℕ) (cs : List ℕ) → EndsInAscii (c ∷ cs) → get_or (c ∷ cs) (length cs) 0 < 128
last_of c [] h = h
last_of c (d ∷ ds) h = last_of d ds h

cut_behind : (text rest : List ℕ) → IsUtf8 (text ++ rest) → EndsInAscii text → CutAt text rest
cut_behind [] rest utf8 ends = absurd ends
cut_behind (c ∷ cs) rest utf8 ends =
    let inside : length cs < length (c ∷ cs) = omega arith in
    let within : length cs < length ((c ∷ cs) ++ rest) = omega (arith, length-append (c ∷ cs) rest) in
    let same : get_or ((c ∷ cs) ++ rest) (length cs) 0 ≡ get_or (c ∷ cs) (length cs) 0 = get_or_append_left (c ∷ cs) rest 0 (length cs) inside in
    let one : length cs + 1 ≡ length (c ∷ cs) = omega arith in
    subst (IsCharBoundary ((c ∷ cs) ++ rest)) one
    (IsCharBoundary-after_ascii ((c ∷ cs) ++ rest) (length cs) utf8 within (subst (λ b. b < 128) (sym same) (last_of c cs ends)))

cut_before : (text : List ℕ) (d : ℕ) (ds : List ℕ) → d < 128 → CutAt text (d ∷ ds)
cut_before text d ds small =
    let at : get_or (text ++ d ∷ ds) (length text) 0 ≡ d = ap (λ n. get_or (text ++ d ∷ ds) n 0) (sym (add-zero (length text))) ∙ get_or-append-add text (d ∷ ds) 0 0 in
    IsCharBoundary-before_ascii (text ++ d ∷ ds) (length text) (omega (arith, length-append text (d ∷ ds))) (subst (λ b. b < 128) (sym at) small)

cut_at_end : (text : List ℕ) → CutAt text []
cut_at_end text = subst (λ t. IsCharBoundary t (length text)) (sym (append-nil text)) (IsCharBoundary-end text)

-- behind an escaped name stands a blank, or nothing
blank_or_solid : (d : ℕ) → (is_blank d ≡ true) ⊎ (is_solid d ≡ true)
blank_or_solid d = is_or_not (is_blank d)

all_push : (p : ℕ → Bool) (cs : List ℕ) (d : ℕ) → AllAre p cs → p d ≡ true → AllAre p (cs ++ d ∷ [])
all_push p [] d h last = (last, tt)
all_push p (c ∷ cs) d h last = (h.0, all_push p cs d h.1 last)

solid_push : (cs : List ℕ) (d : ℕ) → IsSolid cs → is_solid d ≡ true → IsSolid (cs ++ d ∷ [])
solid_push [] d h last = absurd h
solid_push (c ∷ cs) d h last = all_push is_solid (c ∷ cs) d h last

escaped_push : (text : List ℕ) (d : ℕ) → Fits Escaped text → is_solid d ≡ true → Fits Escaped (text ++ d ∷ [])
escaped_push [] d h last = absurd h
escaped_push (c ∷ cs) d h last = (h.0, solid_push cs d h.1 last)

escaped_cut : (text rest : List ℕ) → Fits Escaped text → IsLongest text rest → CutAt text rest
escaped_cut text [] h longest = cut_at_end text
escaped_cut text (d ∷ ds) h longest =
    ⊎_elim
    (λ blank. cut_before text d ds (blank_ascii d blank))
    (λ solid.
    let longer = longest Escaped (text ++ d ∷ []) ds (escaped_push text d h solid) (sym (append_assoc text (d ∷ []) ds)) in
    absurd (omega (arith, longer, length-append text (d ∷ []))))
    (blank_or_solid d)

token_cut : (kind : TokenKind) (text rest : List ℕ) → IsUtf8 (text ++ rest) → Fits kind text → IsLongest text rest → CutAt text rest
token_cut Name text rest utf8 h longest = cut_behind text rest utf8 (name_ends text h)
token_cut Escaped text rest utf8 h longest = escaped_cut text rest h longest
token_cut System text rest utf8 h longest = cut_behind text rest utf8 (behind_ends 36 IsName name_ends text h)
token_cut Directive text rest utf8 h longest = cut_behind text rest utf8 (behind_ends 96 IsName name_ends text h)
token_cut Number text rest utf8 h longest = cut_behind text rest utf8 (shape_ends text h)
token_cut String text rest utf8 h longest = cut_behind text rest utf8 (behind_ends 34 _ (λ body quoted. subst EndsInAscii (sym quoted.parts) (ends_after (concat quoted.items) (34 ∷ []) (omega arith))) text h)
token_cut Symbol text rest utf8 h longest = cut_behind text rest utf8 (symbol_ends text h)

blank_ends : (text : List ℕ) → IsBlank text → EndsInAscii text
blank_ends [] h = absurd h
blank_ends (c ∷ []) h = blank_ascii c h
blank_ends (c ∷ d ∷ ds) h = absurd h

line_cut : (text rest : List ℕ) → EndsLine rest → CutAt text rest
line_cut text [] ends = cut_at_end text
line_cut text (d ∷ ds) ends = cut_before text d ds (subst (λ b. b < 128) (sym (eqb-true d 10 ends)) (omega arith))

gap_cut : (text rest : List ℕ) → IsUtf8 (text ++ rest) → IsGap text rest → CutAt text rest
gap_cut text rest utf8 (inl blank) = cut_behind text rest utf8 (blank_ends text blank)
gap_cut text rest utf8 (inr (inl line)) = line_cut text rest line.to_its_end
gap_cut text rest utf8 (inr (inr block)) =
    cut_behind text rest utf8 (subst EndsInAscii (sym block.parts) (ends_after (47 ∷ 42 ∷ block.body) (42 ∷ 47 ∷ []) (omega arith)))

at_front : (bytes : List ℕ) (n : ℕ) → n ≤ length bytes → CutAt (take n bytes) (drop n bytes) → IsCharBoundary bytes n
at_front bytes n within cut =
    subst (IsCharBoundary bytes) (length-take-le n bytes within)
    (subst (λ b. IsCharBoundary b (length (take n bytes))) (take-append-drop n bytes) cut)

pub part_cut : (kind : Option TokenKind) (bytes : List ℕ) (n : ℕ) → IsUtf8 bytes → n ≤ length bytes → IsHere (piece_of kind (take n bytes)) (drop n bytes) → IsCharBoundary bytes n
part_cut None bytes n utf8 within here =
    at_front bytes n within (gap_cut (take n bytes) (drop n bytes) (subst IsUtf8 (sym (take-append-drop n bytes)) utf8) here)
part_cut (Some kind) bytes n utf8 within here =
    at_front bytes n within (token_cut kind (take n bytes) (drop n bytes) (subst IsUtf8 (sym (take-append-drop n bytes)) utf8) here.fits here.longest)
