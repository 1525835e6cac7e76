-- What a product adds, and how a loop makes it.
use Rattle.gate_words.proofs.Common.{◌≡◌, ℕ, zero, suc, ◌+◌, ◌*◌, ◌%◌, ◌^◌, ◌<◌, ◌≤◌, Bool, true, false, List, [], ◌∷◌, ◌++◌, length, take, drop, replicate, refl, sym, ap, subst, ◌∙◌, arith, All}
use Rattle.gate_words.proofs.Common.{length-map, length-replicate, length-append, length-take-le, take-append-drop, drop_all, All-head, All-tail, All-replicate, Values, digit, number, GateLit, Fixed}
use Rattle.gate_words.proofs.Common.{Gates, count, IsLit, lit_value, And, Up, MadeRow, row_of, lit_values, operation_value, both_bits, Grows, AddsBits, sum_of, moved, number-fits}
use Rattle.std.proofs.Math.Nat.{mod-eq_of_lt, add-mod-mod, mod-add-mod}
use Rattle.gate_words.specs.Products.{product_from, product_of}
use Rattle.gate_words.proofs.Growing.{hold-before, grows-none, grows-then, grows-most, lits-later}
use Rattle.gate_words.proofs.Numbers.{mod-from, pow-suc}
use Rattle.gate_words.proofs.RowLemmas.{row-adds}
use Rattle.gate_words.proofs.Adders.{NumberIs, sum-number}
use Rattle.gate_words.proofs.Moving.{length-moved, All-moved, map-replicate, map-moved}

pub number-append : (xs ys : List Bool) → number (xs ++ ys) ≡ number xs + 2 ^ length xs * number ys
number-append [] ys = omega arith
number-append (b ∷ xs) ys =
    let rest = number-append xs ys in
    let e : 2 ^ length (b ∷ xs) * number ys ≡ 2 * (2 ^ length xs * number ys) = ap (λ (x : ℕ). x * number ys) (pow-suc (length xs)) ∙ (omega arith) in
    omega (arith, rest, e)

pub number-zeros : (k : ℕ) → number (replicate k false) ≡ 0
number-zeros zero = refl
number-zeros (suc k) = let rest = number-zeros k in omega (arith, rest)

pub number-take : (n : ℕ) (bits : List Bool) → n ≤ length bits → number (take n bits) ≡ number bits % 2 ^ n
number-take n bits le =
    let long : length (take n bits) ≡ n = length-take-le n bits le in
    let whole : number (take n bits) + 2 ^ length (take n bits) * number (drop n bits) ≡ number bits = sym (number-append (take n bits) (drop n bits)) ∙ ap number (take-append-drop n bits) in
    let small : number (take n bits) < 2 ^ n = subst (λ (k : ℕ). number (take n bits) < 2 ^ k) long (number-fits (take n bits)) in
    mod-from (number (take n bits)) (number bits) (2 ^ n) (number (drop n bits)) small (subst (λ (k : ℕ). number (take n bits) + 2 ^ k * number (drop n bits) ≡ number bits) long whole)

-- a row moved up
pub number-up : (n : ℕ) (bits : List Bool) → number (moved Up n false bits) ≡ 2 ^ n * number bits % 2 ^ length bits
number-up n bits =
    number-take (length bits) (replicate n false ++ bits) (omega (arith, length-append (replicate n false) bits))
    ∙ ap (λ (x : ℕ). x % 2 ^ length bits) (number-append (replicate n false) bits ∙ (let z = number-zeros n in let p : 2 ^ length (replicate n false) * number bits ≡ 2 ^ n * number bits = ap (λ (k : ℕ). 2 ^ k * number bits) (length-replicate n false) in omega (arith, z, p)))

-- each bit and one bit
pub each-and : (values : Values) (b : Bool) (bits : List Bool) → number (both_bits (operation_value And values) bits (replicate (length bits) b)) ≡ digit b * number bits
each-and values true [] = refl
each-and values false [] = refl
each-and values true (true ∷ more) = let rest = each-and values true more in omega (arith, rest)
each-and values true (false ∷ more) = let rest = each-and values true more in omega (arith, rest)
each-and values false (true ∷ more) = let rest = each-and values false more in omega (arith, rest)
each-and values false (false ∷ more) = let rest = each-and values false more in omega (arith, rest)

-- one more row
added : (b : Bool) (p q a n so_far m : ℕ) → q ≡ p * 2 → ((so_far + digit b * (p * a % m) + 0) % m + q * (a * n)) % m ≡ (so_far + p * (a * (digit b + 2 * n))) % m
added true p q a n so_far m e =
    mod-add-mod (so_far + 1 * (p * a % m) + 0) m (q * (a * n))
    ∙ ap (λ (x : ℕ). x % m) (let f : so_far + 1 * (p * a % m) + 0 + q * (a * n) ≡ so_far + q * (a * n) + p * a % m = omega arith in f)
    ∙ add-mod-mod (so_far + q * (a * n)) (p * a) m
    ∙ ap (λ (x : ℕ). x % m) (ap (λ (k : ℕ). so_far + k * (a * n) + p * a) e ∙ (let f : so_far + p * 2 * (a * n) + p * a ≡ so_far + p * (a * (1 + 2 * n)) = omega arith in f))
added false p q a n so_far m e =
    mod-add-mod (so_far + 0 * (p * a % m) + 0) m (q * (a * n))
    ∙ ap (λ (x : ℕ). x % m) (ap (λ (k : ℕ). so_far + 0 * (p * a % m) + 0 + k * (a * n)) e ∙ (let f : so_far + 0 * (p * a % m) + 0 + p * 2 * (a * n) ≡ so_far + p * (a * (0 + 2 * n)) = omega arith in f))

abbrev pub ProductIs : List GateLit → ℕ → List GateLit → List GateLit → Values → List Bool → Type 0
ProductIs xs i so_far ys values found = number found ≡ (number (lit_values values so_far) + 2 ^ i * (number (lit_values values xs) * number (lit_values values ys))) % 2 ^ length xs

pub product-adds : (xs : List GateLit) (i : ℕ) (gates : Gates) (so_far ys : List GateLit) → All (IsLit (count gates)) xs → All (IsLit (count gates)) so_far → All (IsLit (count gates)) ys → length so_far ≡ length xs → AddsBits gates (product_from xs i gates so_far ys).gates (product_from xs i gates so_far ys).bits (length xs) (6 * (length xs * length ys)) (ProductIs xs i so_far ys)
product-adds xs i gates so_far [] lx lf ly wide = record {
  grows = grows-none gates (6 * (length xs * 0));
  within = lf;
  wide = wide;
  is = λ values holds. (
      let long : length (lit_values values so_far) ≡ length xs = length-map so_far (lit_value values) ∙ wide in
      let small : number (lit_values values so_far) < 2 ^ length xs = subst (λ (k : ℕ). number (lit_values values so_far) < 2 ^ k) long (number-fits (lit_values values so_far)) in
      sym (ap (λ (x : ℕ). x % 2 ^ length xs) (let e : number (lit_values values so_far) + 2 ^ i * (number (lit_values values xs) * 0) ≡ number (lit_values values so_far) = omega arith in e) ∙ mod-eq_of_lt small));
}
product-adds xs i gates so_far (b ∷ more) lx lf ly wide =
    let shifted : List GateLit = moved Up i (Fixed false) xs in
    let bit : List GateLit = replicate (length xs) b in
    let row : MadeRow = row_of And gates shifted bit in
    let R = row-adds And gates shifted bit tt (All-moved (IsLit (count gates)) Up i (Fixed false) xs tt lx) (All-replicate (IsLit (count gates)) (length xs) b (All-head (IsLit (count gates)) b more ly)) (length-moved Up i (Fixed false) xs ∙ sym (length-replicate (length xs) b)) in
    let broad : length row.bits ≡ length xs = R.wide ∙ length-moved Up i (Fixed false) xs in
    let sum : MadeRow = sum_of row.gates so_far row.bits (Fixed false) in
    let S = sum-number row.gates so_far row.bits (Fixed false) (lits-later R.grows so_far lf) R.within tt (wide ∙ sym broad) in
    let both : Grows gates sum.gates (6 * length xs) = grows-then (6 * length xs) R.grows S.grows (omega (arith, wide, length-moved Up i (Fixed false) xs)) in
    let last : MadeRow = product_from xs (suc i) sum.gates sum.bits more in
    let rest : AddsBits sum.gates last.gates last.bits (length xs) (6 * (length xs * length more)) (ProductIs xs (suc i) sum.bits more) = product-adds xs (suc i) sum.gates sum.bits more (lits-later both xs lx) S.within (lits-later both more (All-tail (IsLit (count gates)) b more ly)) (S.wide ∙ wide) in
    record {
      grows = grows-then (6 * (length xs * length (b ∷ more))) both rest.grows (omega arith);
      within = rest.within;
      wide = rest.wide;
      is = λ values holds. (
          let w : ℕ = length xs in
          let a : List Bool = lit_values values xs in
          let hs = hold-before rest.grows values holds in
          let hr = hold-before S.grows values hs in
          let long : length a ≡ w = length-map xs (lit_value values) in
          let is-row : number (lit_values values row.bits) ≡ digit (lit_value values b) * (2 ^ i * number a % 2 ^ w) =
          ap number (
          R.is values hr
          ∙ ap (λ (l : List Bool). both_bits (operation_value And values) l (lit_values values bit)) (map-moved (lit_value values) Up i (Fixed false) xs)
          ∙ ap (λ (l : List Bool). both_bits (operation_value And values) (moved Up i false a) l) (map-replicate (lit_value values) w b ∙ ap (λ (k : ℕ). replicate k (lit_value values b)) (sym (length-moved Up i false a ∙ long))))
          ∙ each-and values (lit_value values b) (moved Up i false a)
          ∙ ap (λ (x : ℕ). digit (lit_value values b) * x) (number-up i a ∙ ap (λ (k : ℕ). 2 ^ i * number a % 2 ^ k) long) in
          let is-sum : number (lit_values values sum.bits) ≡ (number (lit_values values so_far) + digit (lit_value values b) * (2 ^ i * number a % 2 ^ w) + 0) % 2 ^ w =
          S.is values hs
          ∙ ap (λ (k : ℕ). (number (lit_values values so_far) + number (lit_values values row.bits) + 0) % 2 ^ k) wide
          ∙ ap (λ (x : ℕ). (number (lit_values values so_far) + x + 0) % 2 ^ w) is-row in
          rest.is values holds
          ∙ ap (λ (x : ℕ). (x + 2 ^ suc i * (number a * number (lit_values values more))) % 2 ^ w) is-sum
          ∙ added (lit_value values b) (2 ^ i) (2 ^ suc i) (number a) (number (lit_values values more)) (number (lit_values values so_far)) (2 ^ w) (pow-suc i));
    }

-- a product of rows of one width
pub whole-product : (gates : Gates) (xs ys : List GateLit) → All (IsLit (count gates)) xs → All (IsLit (count gates)) ys → length xs ≡ length ys → AddsBits gates (product_of gates xs ys).gates (product_of gates xs ys).bits (length xs) (6 * (length xs * length xs)) (NumberIs (length xs) (λ values. number (lit_values values xs) * number (lit_values values ys)))
whole-product gates xs ys lx ly len =
    let zeros : List GateLit = replicate (length xs) (Fixed false) in
    let P = product-adds xs 0 gates zeros ys lx (All-replicate (IsLit (count gates)) (length xs) (Fixed false) tt) ly (length-replicate (length xs) (Fixed false)) in
    let most : 6 * (length xs * length ys) ≡ 6 * (length xs * length xs) = ap (λ (n : ℕ). 6 * (length xs * n)) (sym len) in
    record {
      grows = grows-most (6 * (length xs * length xs)) P.grows (omega (arith, most));
      within = P.within;
      wide = P.wide;
      is = λ values holds. (
          let none : number (lit_values values zeros) ≡ 0 = ap number (map-replicate (lit_value values) (length xs) (Fixed false)) ∙ number-zeros (length xs) in
          P.is values holds ∙ ap (λ (x : ℕ). x % 2 ^ length xs) (let e : number (lit_values values zeros) + 2 ^ 0 * (number (lit_values values xs) * number (lit_values values ys)) ≡ number (lit_values values xs) * number (lit_values values ys) = omega (arith, none) in e));
    }

-- the loop, in which each turn adds at most 768 gates

pub record ProductAhead (old : Gates) (xs ys : List GateLit) (i : ℕ) (gates : Gates) (so_far : List GateLit) : Type 0 where
  pub grows : Grows old gates (768 * i)
  pub within : All (IsLit (count gates)) so_far
  pub wide : length so_far ≡ length xs
  pub ahead : product_of old xs ys ≡ product_from xs i gates so_far (drop i ys)

pub product-done : (old gates : Gates) (xs ys : List GateLit) (i : ℕ) (so_far : List GateLit) → ProductAhead old xs ys i gates so_far → length ys ≤ i → record { gates = gates; bits = so_far } ≡ product_of old xs ys
product-done old gates xs ys i so_far state end = sym (state.ahead ∙ ap (λ (l : List GateLit). product_from xs i gates so_far l) (drop_all i ys end))
