-- Numbers of what the gates of a cell compute.
use Rattle.cell_gates.proofs.Common.{◌≡◌, ℕ, zero, suc, ◌+◌, ◌-◌, ◌*◌, ◌%◌, ◌^◌, ◌<◌, ◌≤◌, Bool, true, false, not, List, [], ◌∷◌, ◌++◌, length, map, take, replicate, get_or, refl, sym, ap, subst, ◌∙◌}
use Rattle.cell_gates.proofs.Common.{arith, if◌then◌else◌, bit_and, bit_or, bit_xor, length-append, length-replicate, length-map, take-replicate, All, All-head, All-tail, mod-eq_of_lt, Values, digit}
use Rattle.cell_gates.proofs.Common.{number, top_bit, GateLit, IsLit, lit_value, And, Or, Xor, lit_values, operation_value, both_bits, number-not, first_lit, top_lit}
use Rattle.std.proofs.lemmas.Nat.{and_block, or_block, xor_block}
use Rattle.gate_words.proofs.ProductLemmas.{number-append, number-zeros, number-take}
use Rattle.netlist_core.proofs.Settles.{number-fits}

-- the number of a row of w bits is its own remainder
pub fits-mod : (bits : List Bool) (w : ℕ) → length bits ≡ w → number bits ≡ number bits % 2 ^ w
fits-mod bits w wide = sym (mod-eq_of_lt (subst (λ (k : ℕ). number bits < 2 ^ k) wide (number-fits bits)))

-- Operations bit by bit.

number-both : (f : ℕ → ℕ → ℕ) (g : Bool → Bool → Bool) → ((a b r s : ℕ) → r < 2 ^ 1 → s < 2 ^ 1 → f (a * 2 ^ 1 + r) (b * 2 ^ 1 + s) ≡ f a b * 2 ^ 1 + f r s) → f 0 0 ≡ 0 → ((x y : Bool) → f (digit x) (digit y) ≡ digit (g x y)) → (xs ys : List Bool) → length xs ≡ length ys → number (both_bits g xs ys) ≡ f (number xs) (number ys)
number-both f g block none one [] [] len = sym none
number-both f g block none one [] (y ∷ ys) len = absurd (omega arith)
number-both f g block none one (x ∷ xs) [] len = absurd (omega arith)
number-both f g block none one (x ∷ xs) (y ∷ ys) len =
    let rest : number (both_bits g xs ys) ≡ f (number xs) (number ys) = number-both f g block none one xs ys (omega (arith, len)) in
    let first : digit x + 2 * number xs ≡ number xs * 2 ^ 1 + digit x = omega arith in
    let second : digit y + 2 * number ys ≡ number ys * 2 ^ 1 + digit y = omega arith in
    let split : f (number xs * 2 ^ 1 + digit x) (number ys * 2 ^ 1 + digit y) ≡ f (number xs) (number ys) * 2 ^ 1 + f (digit x) (digit y) = block (number xs) (number ys) (digit x) (digit y) (small x) (small y) in
    let whole : f (digit x + 2 * number xs) (digit y + 2 * number ys) ≡ f (number xs) (number ys) * 2 ^ 1 + digit (g x y) = ap (λ (n : ℕ). f n (digit y + 2 * number ys)) first ∙ ap (λ (n : ℕ). f (number xs * 2 ^ 1 + digit x) n) second ∙ split ∙ ap (λ (n : ℕ). f (number xs) (number ys) * 2 ^ 1 + n) (one x y) in
    omega (arith, rest, whole)
  where
    small : (b : Bool) → digit b < 2 ^ 1
    small true = omega arith
    small false = omega arith

pub number-and : (values : Values) (xs ys : List Bool) → length xs ≡ length ys → number (both_bits (operation_value And values) xs ys) ≡ bit_and (number xs) (number ys)
number-and values xs ys len = number-both bit_and (operation_value And values) (and_block 1) refl one xs ys len where
  one : (x y : Bool) → bit_and (digit x) (digit y) ≡ digit (if x then y else false)
  one true true = refl
  one true false = refl
  one false true = refl
  one false false = refl

pub number-or : (values : Values) (xs ys : List Bool) → length xs ≡ length ys → number (both_bits (operation_value Or values) xs ys) ≡ bit_or (number xs) (number ys)
number-or values xs ys len = number-both bit_or (operation_value Or values) (or_block 1) refl one xs ys len where
  one : (x y : Bool) → bit_or (digit x) (digit y) ≡ digit (if x then true else y)
  one true true = refl
  one true false = refl
  one false true = refl
  one false false = refl

pub number-xor : (values : Values) (xs ys : List Bool) → length xs ≡ length ys → number (both_bits (operation_value Xor values) xs ys) ≡ bit_xor (number xs) (number ys)
number-xor values xs ys len = number-both bit_xor (operation_value Xor values) (xor_block 1) refl one xs ys len where
  one : (x y : Bool) → bit_xor (digit x) (digit y) ≡ digit (if x then not y else y)
  one true true = refl
  one true false = refl
  one false true = refl
  one false false = refl

pub number-negated : (bits : List Bool) (w : ℕ) → length bits ≡ w → number (map not bits) ≡ (2 ^ w - 1 - number bits) % 2 ^ w
number-negated bits w wide =
    let sum : number (map not bits) + number bits + 1 ≡ 2 ^ w = number-not bits ∙ ap (λ (k : ℕ). 2 ^ k) wide in
    fits-mod (map not bits) w (length-map bits not ∙ wide) ∙ ap (λ (n : ℕ). n % 2 ^ w) (let e : number (map not bits) ≡ 2 ^ w - 1 - number bits = omega (arith, sum) in e)

-- Bits of rows.

pub first-value : (values : Values) (bits : List GateLit) (w : ℕ) → length bits ≡ 1 → lit_values values bits ≡ lit_value values (first_lit bits) ∷ []
first-value values [] w one = absurd (omega arith)
first-value values (b ∷ []) w one = refl
first-value values (b ∷ c ∷ more) w one = absurd (omega arith)

pub top-value : (values : Values) (bits : List GateLit) → lit_value values (top_lit bits) ≡ top_bit (lit_values values bits)
top-value values [] = refl
top-value values (b ∷ []) = refl
top-value values (b ∷ c ∷ more) = top-value values (c ∷ more)

pub top-at : (bits : List GateLit) (n : ℕ) (d : GateLit) → n + 1 ≡ length bits → get_or bits n d ≡ top_lit bits
top-at [] n d e = absurd (omega arith)
top-at (b ∷ []) zero d e = refl
top-at (b ∷ []) (suc n) d e = absurd (omega arith)
top-at (b ∷ c ∷ more) zero d e = absurd (omega arith)
top-at (b ∷ c ∷ more) (suc n) d e = top-at (c ∷ more) n d (omega (arith, e))

pub top-within : (most : ℕ) (bits : List GateLit) → All (IsLit most) bits → IsLit most (top_lit bits)
top-within most [] are = tt
top-within most (b ∷ []) are = All-head (IsLit most) b [] are
top-within most (b ∷ c ∷ more) are = top-within most (c ∷ more) (All-tail (IsLit most) b (c ∷ more) are)

pub first-within : (most : ℕ) (bits : List GateLit) → All (IsLit most) bits → IsLit most (first_lit bits)
first-within most [] are = tt
first-within most (b ∷ more) are = All-head (IsLit most) b more are

-- a row at a width
take-none : {X : Type 0} (w : ℕ) → take {A = X} w [] ≡ []
take-none zero = refl
take-none (suc w) = refl

pub fitted-take : {X : Type 0} (w z : ℕ) (fill : X) (bits : List X) → w ≤ z + length bits → take w bits ++ replicate (w - length bits) fill ≡ take w (bits ++ replicate z fill)
fitted-take w z fill [] enough =
    ap (λ l. l ++ replicate (w - 0) fill) (take-none w) ∙ ap (λ (k : ℕ). replicate k fill) (let e : w - 0 ≡ w = omega arith in e) ∙ sym (take-replicate w z fill (omega (arith, enough)))
fitted-take zero z fill (b ∷ more) enough = ap (λ (k : ℕ). replicate k fill) (let e : zero - length (b ∷ more) ≡ 0 = omega arith in e)
fitted-take (suc w) z fill (b ∷ more) enough =
    ap (λ (k : ℕ). b ∷ (take w more ++ replicate k fill)) (let e : suc w - length (b ∷ more) ≡ w - length more = omega arith in e) ∙ ap (λ l. b ∷ l) (fitted-take w z fill more (omega (arith, enough)))

-- the number of a row at a width
pub fitted-number : (w : ℕ) (bits : List Bool) → number (take w bits ++ replicate (w - length bits) false) ≡ number bits % 2 ^ w
fitted-number w bits =
    ap number (fitted-take w w false bits (omega arith))
    ∙ number-take w (bits ++ replicate w false) (omega (arith, length-append bits (replicate w false), length-replicate w false))
    ∙ ap (λ (n : ℕ). n % 2 ^ w) (number-append bits (replicate w false) ∙ (let z = number-zeros w in let e : 2 ^ length bits * number (replicate w false) ≡ 0 = ap (λ (n : ℕ). 2 ^ length bits * n) z ∙ (omega arith) in omega (arith, e)))
