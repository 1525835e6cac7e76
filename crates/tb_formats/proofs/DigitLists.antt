-- Digits of numbers as lists.
use Rattle.std.proofs.Common.{◌≡◌, ℕ, suc, ◌+◌, ◌-◌, ◌*◌, ◌/◌, ◌%◌, ◌^◌, ◌<◌, ◌≤◌, false, List, [], ◌∷◌, ◌++◌, length, refl, ap, sym, ◌∙◌, arith}
use Rattle.std.proofs.lemmas.List.{append_assoc}
use Rattle.std.proofs.lemmas.Nat.{shr-shr, pow_pos}
use Rattle.std.proofs.Math.Nat.{mul-suc, mod-lt}
use Rattle.std.proofs.Math.Pow.{pow_mono}
use Rattle.std.specs.Fmt.{digit_glyph}
use Rattle.tb_formats.specs.Digits.{lowest_digits, significant}

pub significant_short : (xs : List ℕ) → length xs ≤ 1 → significant xs ≡ xs
significant_short [] h = refl
significant_short (x ∷ []) h = refl
significant_short (x ∷ y ∷ more) h = absurd (omega arith)

-- one digit more stands behind those before it
pub digit_more : (count left bits v glyph : ℕ) (old now pushed : List ℕ) → 0 < left → left ≤ count → now ≡ old ++ lowest_digits (count - left) (2 ^ bits) (v / 2 ^ (bits * left)) → pushed ≡ now ++ glyph ∷ [] → glyph ≡ digit_glyph false (v / 2 ^ (bits * (left - 1)) % 2 ^ bits) → pushed ≡ old ++ lowest_digits (count - (left - 1)) (2 ^ bits) (v / 2 ^ (bits * (left - 1)))
digit_more count left bits v glyph old now pushed some within is push digit =
    let u = v / 2 ^ (bits * (left - 1)) in
    let one : count - (left - 1) ≡ suc (count - left) = omega arith in
    let whole : suc (left - 1) ≡ left = omega arith in
    let above : bits * (left - 1) + bits ≡ bits * left = sym (mul-suc bits (left - 1)) ∙ ap (λ k. bits * k) whole in
    let rest : u / 2 ^ bits ≡ v / 2 ^ (bits * left) = shr-shr v (bits * (left - 1)) bits ∙ ap (λ k. v / 2 ^ k) above in
    rw (push, is, digit, one, rest) (append_assoc old (lowest_digits (count - left) (2 ^ bits) (v / 2 ^ (bits * left))) _)

-- a digit of at most four bits
pub digit_small : (x bits power : ℕ) → bits ≤ 4 → power ≡ 2 ^ bits → x % power < 16
digit_small x bits power few is =
    let m : 2 ^ bits ≤ 2 ^ 4 = pow_mono few in
    let low : x % 2 ^ bits < 2 ^ bits = mod-lt x (pow_pos bits) in
    rw is (omega arith)
