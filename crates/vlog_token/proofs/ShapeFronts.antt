-- The longest shape of a number at the front.
use Rattle.vlog_token.proofs.Common.{◌≡◌, ℕ, suc, ◌+◌, ◌<◌, ◌≤◌, true, cond, ◌||◌, ◌⊎◌, List, [], ◌∷◌, ◌++◌, length, take, drop, get_or, refl, sym, ap, ◌∙◌, subst, arith, ⊎_elim, inl, inr}
use Rattle.vlog_token.proofs.Common.{append_assoc, take-append-drop, length-append, length-take-le, append-nil, Option, Some, None, slice_index, ◌==◌, prefix_len, is_ascii_digit, cond-true, cond_both}
use Rattle.vlog_token.proofs.Common.{or_cases, or_left, eqb-true, eqb-false, drop_at, prefix_len-le-length, AllAre, is_decimal_part, is_digit_part, is_sign, radix_of, IsDigits, IsLettered, IsBase}
use Rattle.vlog_token.proofs.Common.{IsShape, IsLongestFront, length_in_base, letter_length, base_length, length_behind_size, shape_length}
use Rattle.vlog_token.proofs.Runs.{run_fits, run_longest, run_covers, run_length, one_more}

letter_fits : (c : ℕ) (cs : List ℕ) (o : Option ℕ) → radix_of c ≡ o → IsLettered (take (length_in_base cs o) (c ∷ cs))
letter_fits c cs None is = tt
letter_fits c cs (Some radix) is =
    subst (λ n. IsLettered (take n (c ∷ cs))) (sym (one_more (prefix_len (is_digit_part radix) cs))) (radix, is, run_fits (is_digit_part radix) cs)

lettered_fits : (cs : List ℕ) → IsLettered (take (letter_length cs) cs)
lettered_fits [] = tt
lettered_fits (c ∷ cs) = letter_fits c cs (radix_of c) refl

lettered_covers : (ys more : List ℕ) → IsLettered ys → length ys ≤ letter_length (ys ++ more)
lettered_covers [] more h = omega arith
lettered_covers (y ∷ ys) more h =
    let long = run_covers (is_digit_part h.0) ys more h.2 in
    let enough : suc (length ys) ≤ 1 + prefix_len (is_digit_part h.0) (ys ++ more) = omega (arith, long) in
    subst (λ o. suc (length ys) ≤ length_in_base (ys ++ more) o) (sym h.1) enough

base_of_lettered : (ys : List ℕ) → IsLettered ys → IsBase ys
base_of_lettered [] h = tt
base_of_lettered (y ∷ ys) h = inr h

base_fits : (cs : List ℕ) → IsBase (take (base_length cs) cs)
base_fits [] = tt
base_fits (c ∷ cs) =
    cond_both (is_sign c) (1 + letter_length cs) (letter_length (c ∷ cs)) (λ n. IsBase (take n (c ∷ cs)))
    (λ yes. subst (λ n. IsBase (take n (c ∷ cs))) (sym (one_more (letter_length cs))) (inl (yes, lettered_fits cs)))
    (λ no. base_of_lettered _ (lettered_fits (c ∷ cs)))

-- a sign is no letter of a base
sign_has_no_radix : (c radix : ℕ) → is_sign c ≡ true → radix_of c ≡ Some radix → ⊥
sign_has_no_radix c radix sign is =
    ⊎_elim
    (λ small. let bad : None ≡ Some radix = ap radix_of (sym (eqb-true c 115 small)) ∙ is in cc)
    (λ large. let bad : None ≡ Some radix = ap radix_of (sym (eqb-true c 83 large)) ∙ is in cc)
    (or_cases _ _ sign)

base_covers : (ys more : List ℕ) → IsBase ys → length ys ≤ base_length (ys ++ more)
base_covers [] more h = omega arith
base_covers (y ∷ ys) more (inl signed) =
    let long = lettered_covers ys more signed.1 in
    subst (λ n. suc (length ys) ≤ n) (sym (cond-true (is_sign y) (1 + letter_length (ys ++ more)) (letter_length (y ∷ (ys ++ more))) signed.0)) (omega (arith, long))
base_covers (y ∷ ys) more (inr lettered) =
    cond_both (is_sign y) (1 + letter_length (ys ++ more)) (letter_length (y ∷ (ys ++ more))) (λ n. suc (length ys) ≤ n)
    (λ yes. absurd (sign_has_no_radix y lettered.0 yes lettered.1))
    (λ no. lettered_covers (y ∷ ys) more lettered)

-- digits and `_` from a digit on
digits_in : (c : ℕ) (cs : List ℕ) → is_ascii_digit c ≡ true → IsDigits (take (prefix_len is_decimal_part (c ∷ cs)) (c ∷ cs))
digits_in c cs digit =
    let long = cond-true (is_decimal_part c) (1 + prefix_len is_decimal_part cs) 0 (or_left (is_ascii_digit c) (c == 95) digit) ∙ one_more (prefix_len is_decimal_part cs) in
    subst (λ n. IsDigits (take n (c ∷ cs))) (sym long) (digit, run_fits is_decimal_part cs)

pub digits_parts : (text : List ℕ) → IsDigits text → AllAre is_decimal_part text
digits_parts [] h = absurd h
digits_parts (c ∷ cs) h = (or_left (is_ascii_digit c) (c == 95) h.0, h.1)

size_parts : (size : List ℕ) → (size ≡ []) ⊎ IsDigits size → AllAre is_decimal_part size
size_parts size (inl none) = subst (AllAre is_decimal_part) (sym none) tt
size_parts size (inr digits) = digits_parts size digits

take_more_of : (xs ys : List ℕ) (n : ℕ) → take (length xs + n) (xs ++ ys) ≡ xs ++ take n ys
take_more_of [] ys n = ap (λ k. take k ys) (omega arith)
take_more_of (x ∷ xs) ys n =
    let step : suc (length xs) + n ≡ suc (length xs + n) = omega arith in
    ap (λ k. take k (x ∷ (xs ++ ys))) step ∙ ap (λ l. x ∷ l) (take_more_of xs ys n)

-- what stands behind a size has its shape, where digits are the size or a `'` stands behind it
quoted_shape : (size : List ℕ) (c : ℕ) (cs : List ℕ) → (size ≡ []) ⊎ IsDigits size → c ≡ 39 → IsShape (size ++ take (1 + base_length cs) (c ∷ cs))
quoted_shape size c cs ok quote = inr (record {
  size = size;
  base = take (base_length cs) cs;
  parts = ap (λ n. size ++ take n (c ∷ cs)) (one_more (base_length cs)) ∙ ap (λ q. size ++ q ∷ take (base_length cs) cs) quote;
  is_size = ok;
  is_base = base_fits cs;
})

behind_fits : (size rest : List ℕ) → (size ≡ []) ⊎ IsDigits size → (get_or rest 0 0 ≡ 39) ⊎ IsDigits size → IsShape (size ++ take (length_behind_size rest) rest)
behind_fits size [] ok (inl quote) = absurd (omega (arith, quote))
behind_fits size [] ok (inr digits) = subst IsShape (sym (append-nil size)) (inl digits)
behind_fits size (c ∷ cs) ok start =
    cond_both (c == 39) (1 + base_length cs) 0 (λ n. IsShape (size ++ take n (c ∷ cs)))
    (λ yes. quoted_shape size c cs ok (eqb-true c 39 yes))
    (λ no. subst IsShape (sym (append-nil size)) (⊎_elim (λ quote. absurd (eqb-false c 39 no quote)) (λ digits. inl digits) start))

-- the front of the bytes that has the shape
front_fits : (bytes : List ℕ) → 0 < length bytes → (is_ascii_digit (slice_index bytes 0) || slice_index bytes 0 == 39) ≡ true → IsShape (take (shape_length bytes) bytes)
front_fits [] some start = absurd (omega arith)
front_fits (c ∷ cs) some start =
    let bytes = c ∷ cs in
    let n = prefix_len is_decimal_part bytes in
    let size = take n bytes in
    let rest = drop n bytes in
    let long : length size ≡ n = length-take-le n bytes (prefix_len-le-length is_decimal_part bytes) in
    let whole : size ++ rest ≡ bytes = take-append-drop n bytes in
    let parts : take (shape_length bytes) bytes ≡ size ++ take (length_behind_size rest) rest =
    ap (λ l. take (n + length_behind_size rest) l) (sym whole) ∙ ap (λ k. take (k + length_behind_size rest) (size ++ rest)) (sym long) ∙ take_more_of size rest (length_behind_size rest) in
    subst IsShape (sym parts)
    (⊎_elim
    (λ digit. behind_fits size rest (inr (digits_in c cs digit)) (inr (digits_in c cs digit)))
    (λ quote.
    let is : c ≡ 39 = eqb-true c 39 quote in
    let none : n ≡ 0 = ap (λ q. cond (is_decimal_part q) (1 + prefix_len is_decimal_part cs) 0) is in
    behind_fits size rest (inl (ap (λ k. take k bytes) none)) (inl (ap (λ k. get_or (drop k bytes) 0 0) none ∙ is)))
    (or_cases (is_ascii_digit c) (c == 39) start))

longest_shape : (bytes text more : List ℕ) → IsShape text → bytes ≡ text ++ more → length text ≤ shape_length bytes
longest_shape bytes text more (inl digits) e =
    let long = run_longest is_decimal_part bytes text more (digits_parts text digits) e in omega (arith, long)
longest_shape bytes text more (inr sized) e =
    let tail = 39 ∷ (sized.base ++ more) in
    let whole : bytes ≡ sized.size ++ tail = e ∙ ap (λ t. t ++ more) sized.parts ∙ append_assoc sized.size (39 ∷ sized.base) more in
    let n = run_length is_decimal_part bytes sized.size tail (size_parts sized.size sized.is_size) refl whole in
    let rest : drop (prefix_len is_decimal_part bytes) bytes ≡ tail = ap (λ k. drop k bytes) n ∙ ap (drop (length sized.size)) whole ∙ drop_at sized.size tail (length sized.size) refl in
    let behind : length_behind_size (drop (prefix_len is_decimal_part bytes) bytes) ≡ 1 + base_length (sized.base ++ more) = ap length_behind_size rest in
    let long = base_covers sized.base more sized.is_base in
    omega (arith, n, behind, long, ap length sized.parts, length-append sized.size (39 ∷ sized.base))

pub shape_front : (bytes : List ℕ) → 0 < length bytes → (is_ascii_digit (slice_index bytes 0) || slice_index bytes 0 == 39) ≡ true → shape_length bytes ≤ length bytes → IsLongestFront IsShape bytes (shape_length bytes)
shape_front bytes some start within = record {
  within = within;
  fits = front_fits bytes some start;
  longest = longest_shape bytes;
}
