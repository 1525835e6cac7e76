-- Numbers of bits.
use Rattle.gate_words.proofs.Common.{◌≡◌, ℕ, suc, ◌+◌, ◌-◌, ◌*◌, ◌%◌, ◌^◌, ◌<◌, ◌≤◌, Bool, true, false, not, eqb, ltb, pos, negsuc, ◌-ℤ◌, List, [], ◌∷◌, length, map, refl, sym, ◌∙◌, ap, subst, inl}
use Rattle.gate_words.proofs.Common.{inr, true≢false, arith, if◌then◌else◌, nat_le, nat_lt, nat_eq, int_lt, Values, fold, eqb_tells, leb_tells, digit, number, all_ones, some_one, odd_ones, top_bit}
use Rattle.gate_words.proofs.Common.{signed_number, is_less, And, Or, Xor, operation_value, both_bits, number-fits}
use Rattle.std.proofs.lemmas.Int.{ints}
use Rattle.std.proofs.lemmas.Nat.{mod-mul-add}

pub pow-suc : (k : ℕ) → 2 ^ suc k ≡ 2 ^ k * 2
pow-suc k = omega arith

pub pow-twice : (k r : ℕ) → 2 ^ suc k * r ≡ 2 * (2 ^ k * r)
pow-twice k r = ap (λ (x : ℕ). x * r) (pow-suc k) ∙ (omega arith)

-- half of a number passes half of a power
pub carried : (k low half whole : ℕ) → low ≤ 1 → low + 2 * half ≡ whole → nat_le (2 ^ k) half ≡ nat_le (2 ^ suc k) whole
carried k low half whole small e =
    let p = pow-suc k in
    elim (leb_tells (2 ^ k) half) [
      | inl h ↦ elim (leb_tells (2 ^ suc k) whole) [ inl g ↦ h.0 ∙ sym g.0 | inr g ↦ absurd (omega (arith, h.1, g.1, e, p, small)) ]
      | inr h ↦ elim (leb_tells (2 ^ suc k) whole) [ inl g ↦ absurd (omega (arith, h.1, g.1, e, p, small)) | inr g ↦ h.0 ∙ sym g.0 ]
    ]

-- a number below the modulus that some times the modulus brings to another
pub mod-from : (x y m r : ℕ) → x < m → x + m * r ≡ y → x ≡ y % m
mod-from x y m r small e = sym (ap (λ (z : ℕ). z % m) (let f : y ≡ r * m + x = omega (arith, e) in f) ∙ mod-mul-add r m x small)

pub number-not : (bits : List Bool) → number (map not bits) + number bits + 1 ≡ 2 ^ length bits
number-not [] = refl
number-not (true ∷ more) = let rest = number-not more in let p : 2 ^ length (true ∷ more) ≡ 2 ^ length more * 2 = pow-suc (length more) in omega (arith, rest, p)
number-not (false ∷ more) = let rest = number-not more in let p : 2 ^ length (false ∷ more) ≡ 2 ^ length more * 2 = pow-suc (length more) in omega (arith, rest, p)

-- A chain over bits is their reduction.

and-none : (values : Values) (bits : List Bool) → fold (operation_value And values) false bits ≡ false
and-none values [] = refl
and-none values (b ∷ more) = and-none values more

pub fold-all : (values : Values) (bits : List Bool) → fold (operation_value And values) true bits ≡ all_ones bits
fold-all values [] = refl
fold-all values (true ∷ more) = fold-all values more
fold-all values (false ∷ more) = and-none values more

or-some : (values : Values) (bits : List Bool) → fold (operation_value Or values) true bits ≡ true
or-some values [] = refl
or-some values (b ∷ more) = or-some values more

pub fold-some : (values : Values) (bits : List Bool) → fold (operation_value Or values) false bits ≡ some_one bits
fold-some values [] = refl
fold-some values (true ∷ more) = or-some values more
fold-some values (false ∷ more) = fold-some values more

odd-from : (values : Values) (x : Bool) (bits : List Bool) → fold (operation_value Xor values) x bits ≡ (if x then not (odd_ones bits) else odd_ones bits)
odd-from values true [] = refl
odd-from values false [] = refl
odd-from values true (true ∷ more) = odd-from values false more ∙ sym (not-twice (odd_ones more)) where
  not-twice : (b : Bool) → not (not b) ≡ b
  not-twice true = refl
  not-twice false = refl
odd-from values true (false ∷ more) = odd-from values true more
odd-from values false (true ∷ more) = odd-from values true more
odd-from values false (false ∷ more) = odd-from values false more

pub fold-odd : (values : Values) (bits : List Bool) → fold (operation_value Xor values) false bits ≡ odd_ones bits
fold-odd values bits = odd-from values false bits

-- Equality.

same-half : (d x y : ℕ) → eqb x y ≡ eqb (d + 2 * x) (d + 2 * y)
same-half d x y = elim (eqb_tells x y) [
  | inl h ↦ elim (eqb_tells (d + 2 * x) (d + 2 * y)) [ inl g ↦ h.0 ∙ sym g.0 | inr g ↦ absurd (g.1 (omega (arith, h.1))) ]
  | inr h ↦ elim (eqb_tells (d + 2 * x) (d + 2 * y)) [ inl g ↦ absurd (h.1 (omega (arith, g.1))) | inr g ↦ h.0 ∙ sym g.0 ]
]

odd-even : (x y : ℕ) → false ≡ eqb (1 + 2 * x) (0 + 2 * y)
odd-even x y = elim (eqb_tells (1 + 2 * x) (0 + 2 * y)) [ inl g ↦ absurd (omega (arith, g.1)) | inr g ↦ sym g.0 ]

even-odd : (x y : ℕ) → false ≡ eqb (0 + 2 * x) (1 + 2 * y)
even-odd x y = elim (eqb_tells (0 + 2 * x) (1 + 2 * y)) [ inl g ↦ absurd (omega (arith, g.1)) | inr g ↦ sym g.0 ]

pub alike-equal : (values : Values) (xs ys : List Bool) → length xs ≡ length ys → all_ones (map not (both_bits (operation_value Xor values) xs ys)) ≡ nat_eq (number xs) (number ys)
alike-equal values [] [] len = refl
alike-equal values [] (b ∷ ys) len = absurd (omega arith)
alike-equal values (a ∷ xs) [] len = absurd (omega arith)
alike-equal values (true ∷ xs) (true ∷ ys) len = alike-equal values xs ys (omega arith) ∙ same-half 1 (number xs) (number ys)
alike-equal values (true ∷ xs) (false ∷ ys) len = odd-even (number xs) (number ys)
alike-equal values (false ∷ xs) (true ∷ ys) len = even-odd (number xs) (number ys)
alike-equal values (false ∷ xs) (false ∷ ys) len = alike-equal values xs ys (omega arith) ∙ same-half 0 (number xs) (number ys)

-- Orders.

pub less-carries : (xs ys : List Bool) → length xs ≡ length ys → not (nat_le (2 ^ length xs) (number xs + number (map not ys) + 1)) ≡ nat_lt (number xs) (number ys)
less-carries xs ys len =
    let same : 2 ^ length xs ≡ 2 ^ length ys = ap (λ (k : ℕ). 2 ^ k) len in
    let turned = number-not ys in
    elim (leb_tells (2 ^ length xs) (number xs + number (map not ys) + 1)) [
      | inl h ↦ elim (leb_tells (suc (number xs)) (number ys)) [ inl g ↦ absurd (omega (arith, h.1, g.1, same, turned)) | inr g ↦ ap not h.0 ∙ sym g.0 ]
      | inr h ↦ elim (leb_tells (suc (number xs)) (number ys)) [ inl g ↦ ap not h.0 ∙ sym g.0 | inr g ↦ absurd (omega (arith, h.1, g.1, same, turned)) ]
    ]

-- the top bit turned round
abbrev pub top_turned : List Bool → List Bool
top_turned [] = []
top_turned (b ∷ []) = not b ∷ []
top_turned (b ∷ c ∷ more) = b ∷ top_turned (c ∷ more)

number-turned : (b : Bool) (xs : List Bool) → 2 * number (top_turned (b ∷ xs)) + 2 * (2 ^ length (b ∷ xs) * digit (top_bit (b ∷ xs))) ≡ 2 * number (b ∷ xs) + 2 ^ length (b ∷ xs)
number-turned true [] = refl
number-turned false [] = refl
number-turned b (c ∷ more) =
    let rest = number-turned c more in
    let p : 2 ^ length (b ∷ c ∷ more) * digit (top_bit (c ∷ more)) ≡ 2 * (2 ^ length (c ∷ more) * digit (top_bit (c ∷ more))) = pow-twice (length (c ∷ more)) (digit (top_bit (c ∷ more))) in
    let q : 2 ^ length (b ∷ c ∷ more) ≡ 2 ^ length (c ∷ more) * 2 = pow-suc (length (c ∷ more)) in
    omega (arith, rest, p, q)

below-zero : (x p : ℕ) → x < p → pos x -ℤ pos p ≡ negsuc (p - x - 1)
below-zero x p h = omega (arith, ints)

-- signed numbers x and y of one width, whose turned numbers are u and v
signed-order : (s t : Bool) (q x y u v : ℕ) → x < q → y < q → 2 * u + 2 * (q * digit s) ≡ 2 * x + q → 2 * v + 2 * (q * digit t) ≡ 2 * y + q → int_lt (if s then pos x -ℤ pos q else pos x) (if t then pos y -ℤ pos q else pos y) ≡ ltb u v
signed-order true true q x y u v fx fy e f =
    rw (below-zero x q fx, below-zero y q fy) (elim (leb_tells (suc (q - y - 1)) (q - x - 1)) [
      | inl h ↦ elim (leb_tells (suc u) v) [ inl g ↦ h.0 ∙ sym g.0 | inr g ↦ absurd (omega (arith, h.1, g.1, e, f, fx, fy)) ]
      | inr h ↦ elim (leb_tells (suc u) v) [ inl g ↦ absurd (omega (arith, h.1, g.1, e, f, fx, fy)) | inr g ↦ h.0 ∙ sym g.0 ]
    ])
signed-order true false q x y u v fx fy e f =
    rw (below-zero x q fx) (elim (leb_tells (suc u) v) [ inl g ↦ sym g.0 | inr g ↦ absurd (omega (arith, g.1, e, f, fx, fy)) ])
signed-order false true q x y u v fx fy e f =
    rw (below-zero y q fy) (elim (leb_tells (suc u) v) [ inl g ↦ absurd (omega (arith, g.1, e, f, fx, fy)) | inr g ↦ sym g.0 ])
signed-order false false q x y u v fx fy e f =
    elim (leb_tells (suc x) y) [
      | inl h ↦ elim (leb_tells (suc u) v) [ inl g ↦ h.0 ∙ sym g.0 | inr g ↦ absurd (omega (arith, h.1, g.1, e, f, fx, fy)) ]
      | inr h ↦ elim (leb_tells (suc u) v) [ inl g ↦ absurd (omega (arith, h.1, g.1, e, f, fx, fy)) | inr g ↦ h.0 ∙ sym g.0 ]
    ]

pub signed-turned : (xs ys : List Bool) → length xs ≡ length ys → is_less true xs ys ≡ nat_lt (number (top_turned xs)) (number (top_turned ys))
signed-turned [] [] len = refl
signed-turned [] (b ∷ ys) len = absurd (omega arith)
signed-turned (a ∷ xs) [] len = absurd (omega arith)
signed-turned (a ∷ xs) (b ∷ ys) len =
    let same : 2 ^ length (a ∷ xs) ≡ 2 ^ length (b ∷ ys) = ap (λ (k : ℕ). 2 ^ k) len in
    let small : number (b ∷ ys) < 2 ^ length (a ∷ xs) = omega (arith, number-fits (b ∷ ys), same) in
    let second : 2 * number (top_turned (b ∷ ys)) + 2 * (2 ^ length (a ∷ xs) * digit (top_bit (b ∷ ys))) ≡ 2 * number (b ∷ ys) + 2 ^ length (a ∷ xs) = subst (λ (q : ℕ). 2 * number (top_turned (b ∷ ys)) + 2 * (q * digit (top_bit (b ∷ ys))) ≡ 2 * number (b ∷ ys) + q) (sym same) (number-turned b ys) in
    ap (λ (q : ℕ). int_lt (signed_number (a ∷ xs)) (if top_bit (b ∷ ys) then pos (number (b ∷ ys)) -ℤ pos q else pos (number (b ∷ ys)))) (sym same)
    ∙ signed-order (top_bit (a ∷ xs)) (top_bit (b ∷ ys)) (2 ^ length (a ∷ xs)) (number (a ∷ xs)) (number (b ∷ ys)) (number (top_turned (a ∷ xs))) (number (top_turned (b ∷ ys))) (number-fits (a ∷ xs)) small (number-turned a xs) second

pub not-zero : (n : ℕ) → false ≡ eqb n 0 → 0 < n
not-zero n e = elim (eqb_tells n 0) [ inl h ↦ absurd (true≢false (sym h.0 ∙ sym e)) | inr h ↦ omega (arith, h.1) ]
