-- Texts that are divided by blanks.
use Rattle.site_texts.proofs.Common.{◌≡◌, ◌≢◌, ℕ, suc, ◌+◌, ◌<◌, ◌≤◌, List, [], ◌∷◌, ◌++◌, length, get_or, take, drop, refl, sym, ap, ◌∙◌, arith, take-append-drop, take-take}

-- no byte is a space
abbrev pub NoSpace : List ℕ → Type 0
NoSpace [] = Unit {0}
NoSpace (b ∷ more) = (b ≢ 32) × NoSpace more

pub NoSpace-from : (text : List ℕ) → ((k : ℕ) → k < length text → get_or text k 0 ≢ 32) → NoSpace text
NoSpace-from [] none = tt
NoSpace-from (b ∷ more) none = (none 0 (omega arith), NoSpace-from more (λ k within. none (suc k) (omega arith)))

-- what stands in front of the first space is one text
pub one_split : (a b r s : List ℕ) → NoSpace a → NoSpace b → a ++ 32 ∷ r ≡ b ++ 32 ∷ s → (a ≡ b) × (r ≡ s)
one_split [] [] r s na nb e = (refl, cc)
one_split [] (y ∷ b) r s na nb e = let bad : 32 ≡ y = cc in absurd (nb.0 (sym bad))
one_split (x ∷ a) [] r s na nb e = let bad : x ≡ 32 = cc in absurd (na.0 bad)
one_split (x ∷ a) (y ∷ b) r s na nb e =
    let head : x ≡ y = cc in
    let tail : a ++ 32 ∷ r ≡ b ++ 32 ∷ s = cc in
    let both = one_split a b r s na.1 nb.1 tail in
    let first : a ≡ b = both.0 in
    (cc, both.1)

-- more of a text than its first bytes is these and what stands behind them
pub take_further : (n m : ℕ) (text : List ℕ) → n ≤ m → take m text ≡ take n text ++ drop n (take m text)
take_further n m text le = sym (take-append-drop n (take m text)) ∙ ap (λ t. t ++ drop n (take m text)) (take-take n m text le)

-- the first bytes of a text behind a first part
pub take_behind : (front rest : List ℕ) (at : ℕ) → take (length front + at) (front ++ rest) ≡ front ++ take at rest
take_behind [] rest at = ap (λ n. take n rest) (let e : 0 + at ≡ at = omega arith in e)
take_behind (b ∷ front) rest at =
    let e : suc (length front) + at ≡ suc (length front + at) = omega arith in
    ap (λ n. take n (b ∷ (front ++ rest))) e ∙ ap (λ t. b ∷ t) (take_behind front rest at)
