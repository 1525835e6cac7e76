-- Numbers of bits.
use Rattle.elab_expr.proofs.Common.{◌≡◌, ℕ, zero, suc, ◌+◌, ◌-◌, ◌*◌, ◌/◌, ◌%◌, ◌<◌, ◌≤◌, ◌^◌, Bool, true, false, List, [], ◌∷◌, ◌++◌, length, refl, ap, ◌∙◌, arith, nat_eq, add-one, pow-suc, Bit}
use Rattle.elab_expr.proofs.Common.{Fixed, number, Nets, bit_value, values}
use Rattle.netlist_core.specs.Numbers.{digit}

pub digit-small : (b : Bool) → digit b ≤ 1
digit-small true = omega arith
digit-small false = omega arith

pub number-fits : (nets : Nets) (bits : List Bit) → number (values nets bits) < 2 ^ length bits
number-fits nets [] = omega arith
number-fits nets (b ∷ more) =
    let e : number (values nets more) < 2 ^ length more = number-fits nets more in
    let d : 2 ^ suc (length more) ≡ 2 ^ length more * 2 = pow-suc 2 (length more) in
    let one : digit (bit_value nets b) ≤ 1 = digit-small (bit_value nets b) in
    omega arith

-- a bit above
pub number-push : (nets : Nets) (bits : List Bit) (b : Bit) → number (values nets (bits ++ b ∷ [])) ≡ number (values nets bits) + digit (bit_value nets b) * 2 ^ length bits
number-push nets [] b = omega arith
number-push nets (a ∷ more) b =
    let e = number-push nets more b in
    let d : 2 ^ suc (length more) ≡ 2 ^ length more * 2 = pow-suc 2 (length more) in
    grind (arith, e, d)

pub odd-digit : (n : ℕ) → digit (nat_eq (n % 2) 1) ≡ n % 2
odd-digit n = go (n % 2) (omega arith)
  where
    go : (r : ℕ) → r < 2 → digit (nat_eq r 1) ≡ r
    go zero h = refl
    go (suc zero) h = refl
    go (suc (suc r)) h = absurd (omega arith)

-- one bit of a number more
pub halves : (r k m : ℕ) → m + (r % 2) * 2 ^ k + r / 2 * 2 ^ (k + 1) ≡ m + r * 2 ^ k
halves r k m = let d : 2 ^ (k + 1) ≡ 2 ^ k * 2 = pow-more k in let e : r ≡ r / 2 * 2 + r % 2 = omega arith in
    rw d (split r (r / 2) (r % 2) (2 ^ k) m e)
  where
    pow-more : (k : ℕ) → 2 ^ (k + 1) ≡ 2 ^ k * 2
    pow-more k = rw add-one (pow-suc 2 k)

    split : (r h l p m : ℕ) → r ≡ h * 2 + l → m + l * p + h * (p * 2) ≡ m + r * p
    split r h l p m e = rw e (grind (arith))

-- where no bit is left
pub none_left : (w k r n v : ℕ) → w ≤ k → r < 2 ^ (w - k) → n + r * 2 ^ k ≡ v → n ≡ v
none_left w k r n v h small same =
    let z : w - k ≡ 0 = omega arith in
    let none : r ≡ 0 = (let s : r < 2 ^ 0 = rw z at small in omega arith) in
    let e : n + 0 * 2 ^ k ≡ v = rw none at same in
    omega arith

pub half_small : (r n m : ℕ) → r < 2 ^ n → n ≡ suc m → r / 2 < 2 ^ m
half_small r n m h e = let d : 2 ^ suc m ≡ 2 ^ m * 2 = pow-suc 2 m in let k : r < 2 ^ suc m = rw e at h in omega arith

-- a round of the loop that lays a constant
pub laid_more : (nets : Nets) (bits after : List Bit) (k r v : ℕ) → after ≡ bits ++ Fixed (nat_eq (r % 2) 1) ∷ [] → length bits ≡ k → number (values nets bits) + r * 2 ^ k ≡ v → number (values nets after) + r / 2 * 2 ^ (k + 1) ≡ v
laid_more nets bits after k r v is long same =
    let e = number-push nets bits (Fixed (nat_eq (r % 2) 1)) in
    let d : digit (nat_eq (r % 2) 1) ≡ r % 2 = odd-digit r in
    ap (λ (l : List Bit). number (values nets l) + r / 2 * 2 ^ (k + 1)) is
    ∙ ap (λ (m : ℕ). m + r / 2 * 2 ^ (k + 1)) (e ∙ ap (λ (q : ℕ). number (values nets bits) + q * 2 ^ length bits) d ∙ ap (λ (q : ℕ). number (values nets bits) + r % 2 * 2 ^ q) long)
    ∙ halves r k (number (values nets bits)) ∙ same
