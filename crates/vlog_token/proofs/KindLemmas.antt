-- The first byte of a token tells its kind.
use Rattle.vlog_token.proofs.Common.{◌≡◌, ℕ, ◌<◌, Bool, true, false, cond, ◌||◌, ◌⊎◌, List, [], ◌∷◌, ◌++◌, length, get_or, refl, sym, ap, ◌∙◌, subst, arith, ⊎_elim, inl, inr, Option, Some, None, ◌==◌}
use Rattle.vlog_token.proofs.Common.{list_all, is_ascii_digit, cond-true, cond-false, or_cases, or_left, eqb-true, and_parts, nat_tests, get_or_append_left, TokenKind, Name, Escaped, System}
use Rattle.vlog_token.proofs.Common.{Directive, Number, String, Symbol, is_among, is_name_start, IsSymbol, doubles, seconds, singles, IsDigits, IsShape, Fits, kind_from}

-- a token of the kind may begin with this byte
abbrev pub Starts : TokenKind → ℕ → Type 0
Starts Name c = is_name_start c ≡ true
Starts Number c = (is_ascii_digit c || c == 39) ≡ true
Starts Symbol c = is_among singles c ≡ true
Starts String c = c ≡ 34
Starts Escaped c = c ≡ 92
Starts System c = c ≡ 36
Starts Directive c = c ≡ 96

-- one more test of the first byte
test_kind : (b : Bool) (j k : TokenKind) (o : Option TokenKind) (c : ℕ) → (b ≡ true → Starts j c) → (o ≡ Some k → Starts k c) → cond b (Some j) o ≡ Some k → Starts k c
test_kind true j k o c here others is = let same : j ≡ k = cc in subst (λ i. Starts i c) same (here refl)
test_kind false j k o c here others is = others is

pub kind_starts : (c : ℕ) (k : TokenKind) → kind_from c ≡ Some k → Starts k c
kind_starts c k =
    test_kind (is_name_start c) Name k _ c (λ h. h)
    (test_kind (is_ascii_digit c || c == 39) Number k _ c (λ h. h)
    (test_kind (is_among singles c) Symbol k _ c (λ h. h)
    (test_kind (c == 34) String k _ c (eqb-true c 34)
    (test_kind (c == 92) Escaped k _ c (eqb-true c 92)
    (test_kind (c == 36) System k _ c (eqb-true c 36)
    (test_kind (c == 96) Directive k None c (eqb-true c 96)
    (λ is. let bad : None ≡ Some k = is in cc)))))))

-- a byte of a list passes a test that all of it pass
pub among_passes : (p : ℕ → Bool) (cs : List ℕ) (c : ℕ) → list_all p cs ≡ true → is_among cs c ≡ true → p c ≡ true
among_passes p [] c all h = let bad : false ≡ true = h in cc
among_passes p (d ∷ ds) c all h =
    let both = and_parts (p d) (list_all p ds) all in
    ⊎_elim
    (λ here. ap p (sym (eqb-true d c here)) ∙ both.0)
    (λ there. among_passes p ds c both.1 there)
    (or_cases (d == c) (is_among ds c) h)

abbrev is_symbol_kind : Option TokenKind → Bool
is_symbol_kind (Some Symbol) = true
is_symbol_kind _ = false

symbol_kind_is : (o : Option TokenKind) → is_symbol_kind o ≡ true → o ≡ Some Symbol
symbol_kind_is None h = let bad : false ≡ true = h in cc
symbol_kind_is (Some Name) h = let bad : false ≡ true = h in cc
symbol_kind_is (Some Escaped) h = let bad : false ≡ true = h in cc
symbol_kind_is (Some System) h = let bad : false ≡ true = h in cc
symbol_kind_is (Some Directive) h = let bad : false ≡ true = h in cc
symbol_kind_is (Some Number) h = let bad : false ≡ true = h in cc
symbol_kind_is (Some String) h = let bad : false ≡ true = h in cc
symbol_kind_is (Some Symbol) h = refl

symbols_kind : (c : ℕ) → is_among singles c ≡ true → kind_from c ≡ Some Symbol
symbols_kind c h = symbol_kind_is (kind_from c) (among_passes (λ d. is_symbol_kind (kind_from d)) singles c refl h)

-- a digit and `'` begin no name
no_name_start : (c : ℕ) → (is_ascii_digit c || c == 39) ≡ true → is_name_start c ≡ false
no_name_start c h = grind (arith, nat_tests)

pub starts_kind : (k : TokenKind) (c : ℕ) → Starts k c → kind_from c ≡ Some k
starts_kind Name c h = cond-true (is_name_start c) _ _ h
starts_kind Number c h = cond-false (is_name_start c) _ _ (no_name_start c h) ∙ cond-true (is_ascii_digit c || c == 39) _ _ h
starts_kind Symbol c h = symbols_kind c h
starts_kind String c h = ap kind_from h
starts_kind Escaped c h = ap kind_from h
starts_kind System c h = ap kind_from h
starts_kind Directive c h = ap kind_from h

single_at : (a n : ℕ) → is_among singles n ≡ true → (a == n) ≡ true → is_among singles a ≡ true
single_at a n single is = ap (is_among singles) (eqb-true a n is) ∙ single

-- one more test of a symbol's first byte
test_bytes : (t : Bool) (a b : ℕ) (xs ys : List ℕ) → (t ≡ true → is_among singles a ≡ true) → (is_among ys b ≡ true → is_among singles a ≡ true) → is_among (cond t xs ys) b ≡ true → is_among singles a ≡ true
test_bytes true a b xs ys here others h = here refl
test_bytes false a b xs ys here others h = others h

seconds_begin : (a b : ℕ) → is_among (seconds a) b ≡ true → is_among singles a ≡ true
seconds_begin a b =
    test_bytes (a == 43) a b _ _ (single_at a 43 refl)
    (test_bytes (a == 45) a b _ _ (single_at a 45 refl)
    (test_bytes (a == 42) a b _ _ (single_at a 42 refl)
    (test_bytes (a == 61) a b _ _ (single_at a 61 refl)
    (test_bytes (a == 33) a b _ _ (single_at a 33 refl)
    (test_bytes (a == 60) a b _ _ (single_at a 60 refl)
    (test_bytes (a == 62) a b _ _ (single_at a 62 refl)
    (test_bytes (a == 38) a b _ _ (single_at a 38 refl)
    (test_bytes (a == 124) a b _ _ (single_at a 124 refl)
    (test_bytes (a == 126) a b _ _ (single_at a 126 refl)
    (test_bytes (a == 94) a b _ _ (single_at a 94 refl)
    (λ h. let bad : false ≡ true = h in cc)))))))))))

doubles_begin : (a b : ℕ) → is_among (doubles a) b ≡ true → is_among singles a ≡ true
doubles_begin a b =
    test_bytes (a == 61) a b _ _ (single_at a 61 refl)
    (test_bytes (a == 33) a b _ _ (single_at a 33 refl)
    (test_bytes (a == 60) a b _ _ (single_at a 60 refl)
    (test_bytes (a == 62) a b _ _ (single_at a 62 refl)
    (test_bytes (a == 38) a b _ _ (single_at a 38 refl)
    (λ h. let bad : false ≡ true = h in cc)))))

digits_start : (text : List ℕ) → IsDigits text → (0 < length text) × (is_ascii_digit (get_or text 0 0) ≡ true)
digits_start [] h = absurd h
digits_start (c ∷ cs) h = (omega arith, h.0)

-- the text has a first byte, which may begin its kind
abbrev pub Begins : TokenKind → List ℕ → Type 0
Begins k text = (0 < length text) × Starts k (get_or text 0 0)

size_starts : (size base : List ℕ) → (size ≡ []) ⊎ IsDigits size → Begins Number (size ++ 39 ∷ base)
size_starts [] base is = (omega arith, refl)
size_starts (c ∷ cs) base (inl none) = let bad : c ∷ cs ≡ [] = none in absurd (omega (arith, ap length bad))
size_starts (c ∷ cs) base (inr digits) = (omega arith, or_left (is_ascii_digit c) (c == 39) digits.0)

number_starts : (text : List ℕ) → IsShape text → Begins Number text
number_starts text (inl digits) = let first = digits_start text digits in (first.0, or_left (is_ascii_digit (get_or text 0 0)) (get_or text 0 0 == 39) first.1)
number_starts text (inr sized) = subst (Begins Number) (sym sized.parts) (size_starts sized.size sized.base sized.is_size)

symbol_starts : (text : List ℕ) → IsSymbol text → Begins Symbol text
symbol_starts [] h = absurd h
symbol_starts (a ∷ []) h = (omega arith, h)
symbol_starts (a ∷ b ∷ []) h = (omega arith, seconds_begin a b h)
symbol_starts (a ∷ b ∷ c ∷ []) h = (omega arith, doubles_begin a b h.0)
symbol_starts (a ∷ b ∷ c ∷ d ∷ ds) h = absurd h

pub fits_begins : (k : TokenKind) (text : List ℕ) → Fits k text → Begins k text
fits_begins Name [] h = absurd h
fits_begins Name (c ∷ cs) h = (omega arith, h.0)
fits_begins Number text h = number_starts text h
fits_begins Symbol text h = symbol_starts text h
fits_begins String [] h = absurd h
fits_begins String (c ∷ cs) h = (omega arith, h.0)
fits_begins Escaped [] h = absurd h
fits_begins Escaped (c ∷ cs) h = (omega arith, h.0)
fits_begins System [] h = absurd h
fits_begins System (c ∷ cs) h = (omega arith, h.0)
fits_begins Directive [] h = absurd h
fits_begins Directive (c ∷ cs) h = (omega arith, h.0)

-- what fits at the front of some bytes is of the kind of their first byte
pub front_kind : (k : TokenKind) (text more bytes : List ℕ) → Fits k text → bytes ≡ text ++ more → kind_from (get_or bytes 0 0) ≡ Some k
front_kind k text more bytes h e =
    let begins = fits_begins k text h in
    let first : get_or bytes 0 0 ≡ get_or text 0 0 = ap (λ b. get_or b 0 0) e ∙ get_or_append_left text more 0 0 begins.0 in
    ap kind_from first ∙ starts_kind k (get_or text 0 0) begins.1
