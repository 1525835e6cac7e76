-- Marks in words of 64 bits.
use Rattle.cycle_sim.proofs.Common.{◌≡◌, ◌≢◌, ℕ, ◌+◌, ◌-◌, ◌*◌, ◌/◌, ◌%◌, ◌^◌, ◌<◌, ◌≤◌, List, [], ◌∷◌, ◌++◌, length, take, get_or, set, sym, ◌∙◌, ap, subst, inl, inr, arith, w64, Contains, bit_at}
use Rattle.cycle_sim.proofs.Common.{trailing_zeros, eqb_tells, cases_lt, shr-shr, shr_le, bit_at-zero, bit_at-trailing_zeros, bit_at_above, get_or-set_same, get_or-set_other, take_more, mark_at}
use Rattle.std.specs.Prelude.{bit_and, bit_or}
use Rattle.std.proofs.lemmas.List.Elements.{Contains-push, Contains-append_left, Contains-push_cases}

-- a word with this bit 1, or 0
abbrev pub set_bit : ℕ → ℕ → ℕ
set_bit w i = bit_or w (1 * 2 ^ i % 18446744073709551616)

abbrev pub cleared_bit : ℕ → ℕ → ℕ
cleared_bit w i = bit_and w (18446744073709551615 - 1 * 2 ^ i % 18446744073709551616)

-- a word of the marks is replaced
pub mark-here : (marks : List ℕ) (p w : ℕ) → p < 64 * length marks → mark_at (set marks (p / 64) w) p ≡ bit_at w (p % 64)
mark-here marks p w inside = ap (λ (x : ℕ). bit_at x (p % 64)) (get_or-set_same marks (p / 64) w 0 (omega (arith, inside)))

pub mark-other : (marks : List ℕ) (p w k : ℕ) → p < 64 * length marks → ((i : ℕ) → i < 64 → i ≢ p % 64 → bit_at w i ≡ bit_at (get_or marks (p / 64) 0) i) → k ≢ p → mark_at (set marks (p / 64) w) k ≡ mark_at marks k
mark-other marks p w k inside keeps other = elim (eqb_tells (k / 64) (p / 64)) [
  | inl same ↦
      (let word : get_or (set marks (p / 64) w) (k / 64) 0 ≡ w = ap (λ (j : ℕ). get_or (set marks (p / 64) w) j 0) same.1 ∙ get_or-set_same marks (p / 64) w 0 (omega (arith, inside)) in
      let apart : k % 64 ≢ p % 64 = λ e. other (let s = same.1 in omega (arith, e, s)) in
      ap (λ (x : ℕ). bit_at x (k % 64)) word ∙ keeps (k % 64) (omega arith) apart ∙ ap (λ (j : ℕ). bit_at (get_or marks j 0) (k % 64)) (sym same.1))
  | inr off ↦ ap (λ (x : ℕ). bit_at x (k % 64)) (get_or-set_other marks (p / 64) (k / 64) w 0 off.1)
]

-- places that were marked, and one more
pub marked-more : (old new : List ℕ) (places : List ℕ) (i : ℕ) → ((k : ℕ) → Contains (take i places) k → mark_at old k ≡ 1) → i < length places → mark_at new (get_or places i 0) ≡ 1 → ((k : ℕ) → k ≢ get_or places i 0 → mark_at new k ≡ mark_at old k) → (k : ℕ) → Contains (take (i + 1) places) k → mark_at new k ≡ 1
marked-more old new places i marked inside here others k h = elim (eqb_tells k (get_or places i 0)) [
  | inl same ↦ subst (λ (j : ℕ). mark_at new j ≡ 1) (sym same.1) here
  | inr other ↦ others k other.1 ∙ marked k (elim (Contains-push_cases (take i places) (get_or places i 0) k (subst (λ (l : List ℕ). Contains l k) (take_more places i 0 inside) h)) [ inl before ↦ before | inr is ↦ absurd (other.1 (sym is)) ])
]

pub others-more : (first old new : List ℕ) (places : List ℕ) (i : ℕ) → ((k : ℕ) → ¬ Contains (take i places) k → mark_at old k ≡ mark_at first k) → i < length places → ((k : ℕ) → k ≢ get_or places i 0 → mark_at new k ≡ mark_at old k) → (k : ℕ) → ¬ Contains (take (i + 1) places) k → mark_at new k ≡ mark_at first k
others-more first old new places i kept inside others k none =
    let without : ¬ Contains (take i places ++ get_or places i 0 ∷ []) k = λ h. none (subst (λ (l : List ℕ). Contains l k) (sym (take_more places i 0 inside)) h) in
    others k (λ e. without (subst (λ (j : ℕ). Contains (take i places ++ get_or places i 0 ∷ []) j) (sym e) (Contains-push (take i places) (get_or places i 0))))
    ∙ kept k (λ h. without (Contains-append_left (take i places) (get_or places i 0 ∷ []) k h))

-- What the lowest bit of the rest of a word tells, from this place on.

shifted : (n a j : ℕ) → bit_at (n / 2 ^ a) j ≡ bit_at n (a + j)
shifted n a j = ap (λ (x : ℕ). x % 2) (shr-shr n a j)

module _ (marks : List ℕ) (from rest : ℕ) (fits : get_or marks (from / 64) 0 < 2 ^ 64) (is : rest ≡ get_or marks (from / 64) 0 / 2 ^ (from % 64)) where
  abbrev word : ℕ
  word = get_or marks (from / 64) 0

  rest-at : (k : ℕ) → from ≤ k → k / 64 ≡ from / 64 → mark_at marks k ≡ bit_at rest (k % 64 - from % 64)
  rest-at k le same =
      let up : from % 64 + (k % 64 - from % 64) ≡ k % 64 = omega (arith, le, same) in
      ap (λ (j : ℕ). bit_at (get_or marks j 0) (k % 64)) same ∙ ap (bit_at word) (sym up) ∙ sym (shifted word (from % 64) (k % 64 - from % 64)) ∙ ap (λ (x : ℕ). bit_at x (k % 64 - from % 64)) (sym is)

  -- the rest is 0
  pub none-in-word : rest ≡ 0 → (k : ℕ) → from ≤ k → k / 64 ≡ from / 64 → mark_at marks k ≡ 0
  none-in-word none k le same = rest-at k le same ∙ ap (λ (x : ℕ). bit_at x (k % 64 - from % 64)) none ∙ bit_at-zero (k % 64 - from % 64)

  -- and else its lowest bit is the first mark
  module _ (some : 0 < rest) (small : rest < 2 ^ 64) where
    abbrev t : ℕ
    t = trailing_zeros w64 rest

    lowest : (t < 64) × (bit_at rest t ≡ 1) × ((i : ℕ) → i < t → bit_at rest i ≡ 0)
    lowest = bit_at-trailing_zeros w64 rest some small

    in-word : from % 64 + t < 64
    in-word = elim (cases_lt (from % 64 + t) 64) [
      | inl less ↦ less
      | inr past ↦ absurd (
          let zero_there : bit_at rest t ≡ 0 = ap (λ (x : ℕ). bit_at x t) is ∙ shifted word (from % 64) t ∙ bit_at_above word 64 (from % 64 + t) fits past in
          let one = lowest.1 in
          omega (arith, zero_there, one))
    ]

    same-word : (k : ℕ) → from ≤ k → k ≤ from + t → k / 64 ≡ from / 64
    same-word k le most = (let i = in-word in omega (arith, i, le, most))

    pub first-before : (k : ℕ) → from ≤ k → k < from + t → mark_at marks k ≡ 0
    first-before k le less =
        let same = same-word k le (omega (arith, less)) in
        rest-at k le same ∙ lowest.2 (k % 64 - from % 64) (omega (arith, le, less, same))

    pub first-is : mark_at marks (from + t) ≡ 1
    first-is =
        let same = same-word (from + t) (omega arith) (omega arith) in
        let i = in-word in
        let e : (from + t) % 64 - from % 64 ≡ t = omega (arith, same, i) in
        rest-at (from + t) (omega arith) same ∙ ap (bit_at rest) e ∙ lowest.1

    pub first-inside : from < 64 * length marks → from + t < 64 * length marks
    first-inside inside = (let i = in-word in omega (arith, i, inside))

-- a whole word, and what is left of one
pub whole-word : (marks : List ℕ) (at : ℕ) → get_or marks at 0 < 2 ^ 64 → (get_or marks (64 * at / 64) 0 < 2 ^ 64) × (get_or marks at 0 ≡ get_or marks (64 * at / 64) 0 / 2 ^ (64 * at % 64))
whole-word marks at fits =
    let there : 64 * at / 64 ≡ at = omega arith in
    let low : 64 * at % 64 ≡ 0 = omega arith in
    rw (there, low) (fits, (let one : get_or marks at 0 ≡ get_or marks at 0 / 1 = omega arith in one))

pub rest-small : (word n : ℕ) → word < 2 ^ 64 → word / 2 ^ n < 2 ^ 64
rest-small word n fits = (let le = shr_le word n in omega (arith, le, fits))
