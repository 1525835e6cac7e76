-- Round numbers, digit by digit, and how many there are up to a number.
use Rattle.result_book.proofs.Common.{◌≡◌, ◌≢◌, inl, inr, arith, ℕ, ◌+◌, ◌*◌, ◌/◌, ◌%◌, ◌^◌, ◌<◌, ◌≤◌, Bool, true, false, ◌==◌, ◌&&◌, List, [], ◌∷◌, ◌++◌, drop, decimal, length, refl, sym, ◌∙◌, ap}
use Rattle.result_book.proofs.Common.{if◌then◌else◌, nat_lt, length-append, list_all, ◌⊎◌, and_parts, le-ltb, lt-ltb, ltb-false, ltb-true, eqb_tells, drop-append-le, list_all-append, is_round}
use Rattle.std.proofs.lemmas.Fmt.{decimal_digit, decimal_nonempty, decimal_step}

abbrev is_zero : ℕ → Bool
is_zero digit = digit == 48

pub below : (a b : ℕ) → (a < b) ⊎ (b ≤ a)
below a b = go (nat_lt a b) refl
  where
    go : (r : Bool) → nat_lt a b ≡ r → (a < b) ⊎ (b ≤ a)
    go true e = inl (ltb-true a b e)
    go false e = inr (ltb-false a b e)

-- a number of one digit or two is round
pub small_round : (n : ℕ) → n < 100 → is_round n ≡ true
small_round n few = elim (below n 10) [
  | inl less ↦ ap (λ (ds : List ℕ). list_all is_zero (drop 2 ds)) (decimal_digit n less)
  | inr more ↦ (let tens : decimal (n / 10) ≡ (48 + n / 10) ∷ [] = decimal_digit (n / 10) (omega (arith, few)) in
      ap (λ (ds : List ℕ). list_all is_zero (drop 2 ds)) (decimal_step n more (omega (arith, few)) ∙ ap (λ (ds : List ℕ). ds ++ (48 + n % 10) ∷ []) tens))
]

two_digits : (n : ℕ) → 10 ≤ n → n < 2 ^ 64 → 2 ≤ length (decimal n)
two_digits n more few = omega (arith, ap length (decimal_step n more few), length-append (decimal (n / 10)) ((48 + n % 10) ∷ []), decimal_nonempty (n / 10) (omega (arith, few)))

digit_zero : (r : ℕ) → is_zero (48 + r) ≡ (r == 0)
digit_zero r = elim (eqb_tells r 0) [
  | inl h ↦ ap (λ (x : ℕ). is_zero (48 + x)) h.1 ∙ sym h.0
  | inr h ↦ (elim (eqb_tells (48 + r) 48) [ inl g ↦ absurd (h.1 (omega (arith, g.1))) | inr g ↦ g.0 ∙ sym h.0 ])
]

and_true : (b : Bool) → (b && true) ≡ b
and_true true = refl
and_true false = refl

-- a longer one is where its last digit is 0 and the number before it is round
pub round_step : (n : ℕ) → 100 ≤ n → n < 2 ^ 64 → is_round n ≡ (is_round (n / 10) && (n % 10 == 0))
round_step n more few =
    let ds : List ℕ = decimal (n / 10) in
    let last : List ℕ = (48 + n % 10) ∷ [] in
    let long : 2 ≤ length ds = two_digits (n / 10) (omega (arith, more)) (omega (arith, few)) in
    let parts : drop 2 (decimal n) ≡ drop 2 ds ++ last = ap (drop 2) (decimal_step n (omega (arith, more)) few) ∙ drop-append-le 2 ds last long in
    let one : list_all is_zero last ≡ (n % 10 == 0) = and_true (is_zero (48 + n % 10)) ∙ digit_zero (n % 10) in
    ap (list_all is_zero) parts ∙ list_all-append is_zero (drop 2 ds) last ∙ ap (λ (b : Bool). is_round (n / 10) && b) one

pub round_more : (n : ℕ) → 100 ≤ n → n < 2 ^ 64 → n % 10 ≡ 0 → is_round n ≡ is_round (n / 10)
round_more n more few none = elim (eqb_tells (n % 10) 0) [
  | inl h ↦ round_step n more few ∙ ap (λ (b : Bool). is_round (n / 10) && b) h.0 ∙ and_true (is_round (n / 10))
  | inr h ↦ absurd (h.1 none)
]

and_false : (b : Bool) → (b && false) ≡ false
and_false true = refl
and_false false = refl

pub round_not : (n : ℕ) → 100 ≤ n → n < 2 ^ 64 → n % 10 ≢ 0 → is_round n ≡ false
round_not n more few some = elim (eqb_tells (n % 10) 0) [
  | inl h ↦ absurd (some h.1)
  | inr h ↦ round_step n more few ∙ ap (λ (b : Bool). is_round (n / 10) && b) h.0 ∙ and_false (is_round (n / 10))
]

-- so a round number of three digits or more is ten times a round one
pub round_tens : (n : ℕ) → 100 ≤ n → n < 2 ^ 64 → is_round n ≡ true → (is_round (n / 10) ≡ true) × (n ≡ 10 * (n / 10))
round_tens n more few round =
    let both = and_parts (is_round (n / 10)) (n % 10 == 0) (sym (round_step n more few) ∙ round) in
    elim (eqb_tells (n % 10) 0) [ inl h ↦ (both.0, omega (arith, h.1)) | inr h ↦ absurd (let never : false ≡ true = sym h.0 ∙ both.1 in cc) ]

-- How many round numbers there are from 1 to n, for n up to 100,000: all up to 99, and 90 of each further number of digits.
abbrev pub rank : ℕ → ℕ
rank n =
    if nat_lt n 100 then n
    else if nat_lt n 1000 then 90 + n / 10
    else if nat_lt n 10000 then 180 + n / 100
    else if nat_lt n 100000 then 270 + n / 1000
    else 370

rank_1 : (n : ℕ) → n < 100 → rank n ≡ n
rank_1 n less = rw (lt-ltb n 100 less) refl

rank_2 : (n : ℕ) → 100 ≤ n → n < 1000 → rank n ≡ 90 + n / 10
rank_2 n more less = rw (le-ltb n 100 more, lt-ltb n 1000 less) refl

rank_3 : (n : ℕ) → 1000 ≤ n → n < 10000 → rank n ≡ 180 + n / 100
rank_3 n more less = rw (le-ltb n 100 (omega (arith, more)), le-ltb n 1000 more, lt-ltb n 10000 less) refl

rank_4 : (n : ℕ) → 10000 ≤ n → n < 100000 → rank n ≡ 270 + n / 1000
rank_4 n more less = rw (le-ltb n 100 (omega (arith, more)), le-ltb n 1000 (omega (arith, more)), le-ltb n 10000 more, lt-ltb n 100000 less) refl

rank_5 : (n : ℕ) → 100000 ≤ n → rank n ≡ 370
rank_5 n more = rw (le-ltb n 100 (omega (arith, more)), le-ltb n 1000 (omega (arith, more)), le-ltb n 10000 (omega (arith, more)), le-ltb n 100000 more) refl

-- how great a rank is below a power of ten
most_2 : (n : ℕ) → n < 1000 → rank n ≤ 189
most_2 n less = elim (below n 100) [ inl one ↦ omega (arith, rank_1 n one, one) | inr two ↦ omega (arith, rank_2 n two less, less) ]

most_3 : (n : ℕ) → n < 10000 → rank n ≤ 279
most_3 n less = elim (below n 1000) [ inl two ↦ omega (arith, most_2 n two) | inr three ↦ omega (arith, rank_3 n three less, less) ]

most_4 : (n : ℕ) → n < 100000 → rank n ≤ 369
most_4 n less = elim (below n 10000) [ inl three ↦ omega (arith, most_3 n three) | inr four ↦ omega (arith, rank_4 n four less, less) ]

pub rank_most : (n : ℕ) → rank n ≤ 370
rank_most n = elim (below n 100000) [ inl four ↦ omega (arith, most_4 n four) | inr five ↦ omega (arith, rank_5 n five) ]

-- A round number has a greater rank than each smaller number.
pub rank_less : (b n : ℕ) → b < n → n ≤ 100000 → is_round n ≡ true → rank b < rank n
rank_less b n less most round = elim (below n 100) [
  | inl one ↦ omega (arith, rank_1 n one, rank_1 b (omega (arith, less, one)), less)
  | inr above ↦ (let tens = round_tens n above (omega (arith, most)) round in
      elim (below n 1000) [
        | inl two ↦ elim (below b 100) [
          | inl small ↦ omega (arith, rank_2 n above two, rank_1 b small, small, above, tens.1)
          | inr same ↦ omega (arith, rank_2 n above two, rank_2 b same (omega (arith, less, two)), less, tens.1)
        ]
        | inr more ↦ longer tens more
      ])
]
  where
    last : (is_round (n / 10) ≡ true) × (n ≡ 10 * (n / 10)) → (is_round (n / 10 / 10) ≡ true) × (n / 10 ≡ 10 * (n / 10 / 10)) → 10000 ≤ n → n < 100000 → rank b < rank n
    last tens hundreds more four =
        let thousands = round_tens (n / 10 / 10) (omega (arith, more, tens.1, hundreds.1)) (omega (arith, four, tens.1, hundreds.1)) hundreds.0 in
        elim (below b 10000) [
          | inl small ↦ omega (arith, rank_4 n more four, most_3 b small, more)
          | inr same ↦ omega (arith, rank_4 n more four, rank_4 b same (omega (arith, less, four)), less, tens.1, hundreds.1, thousands.1)
        ]

    longer : (is_round (n / 10) ≡ true) × (n ≡ 10 * (n / 10)) → 1000 ≤ n → rank b < rank n
    longer tens more =
        let hundreds = round_tens (n / 10) (omega (arith, more, tens.1)) (omega (arith, most, tens.1)) tens.0 in
        elim (below n 10000) [
          | inl three ↦ elim (below b 1000) [
            | inl small ↦ omega (arith, rank_3 n more three, most_2 b small, more)
            | inr same ↦ omega (arith, rank_3 n more three, rank_3 b same (omega (arith, less, three)), less, tens.1, hundreds.1)
          ]
          | inr ten ↦ elim (below n 100000) [
            | inl four ↦ last tens hundreds ten four
            | inr five ↦ omega (arith, rank_5 n five, most_4 b (omega (arith, less, most)))
          ]
        ]
