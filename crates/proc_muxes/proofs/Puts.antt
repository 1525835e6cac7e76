-- A put lays bits at an index.
use Rattle.proc_muxes.proofs.Common.{◌≡◌, ◌⊎◌, ℕ, zero, suc, ◌+◌, ◌-◌, ◌<◌, ◌≤◌, ◌^◌, ℤ, pos, Bool, true, false, ◌&&◌, List, [], ◌∷◌, ◌++◌, length, replicate, Option, Some, None, nat_lt, nat_le, set}
use Rattle.proc_muxes.proofs.Common.{refl, sym, ◌∙◌, ap, inl, inr, arith, suc-add, add-one, if◌then◌else◌, take-length, length-map, length-set, length-replicate, leb-true, leb_tells, Span, Bit, Put}
use Rattle.proc_muxes.proofs.Common.{number, laid_at, Nets, bit_value, values, Shape, is_negative, integer, extended, power_le, bits_of, Vector, bit_at, bits_from, written, and-left, and-right}
use Rattle.proc_muxes.proofs.Common.{Building, RunsIn, fresh_bits, index_width, index_wide, index_bits, AddsCell}
use Rattle.std.proofs.Common.{length-append}
use Rattle.vlog_meaning.proofs.Signs.{extended_negative, extended_positive, integer_negative, integer_positive}
use Rattle.elab_expr.specs.Wiring.{fill_bit}
use Rattle.elab_expr.proofs.Extensions.{extended_is}
use Rattle.proc_muxes.proofs.Bits.{bits_of-number}
use Rattle.proc_muxes.proofs.Gates.{cell-values}

-- the bits with others laid over them from a place on
abbrev lay : List Bool → ℕ → List Bool → List Bool
lay [] n d = []
lay (a ∷ more) (suc n) d = a ∷ lay more n d
lay (a ∷ more) zero [] = a ∷ more
lay (a ∷ more) zero (x ∷ d) = x ∷ lay more zero d

length-lay : (xs : List Bool) (n : ℕ) (d : List Bool) → length (lay xs n d) ≡ length xs
length-lay [] n d = refl
length-lay (a ∷ more) (suc n) d = ap suc (length-lay more n d)
length-lay (a ∷ more) zero [] = refl
length-lay (a ∷ more) zero (x ∷ d) = ap suc (length-lay more zero d)

laid-is : (xs : List Bool) (n : ℕ) (d : List Bool) → laid_at xs n d ≡ lay xs n d
laid-is [] n d = refl
laid-is (a ∷ more) (suc n) d = rw (suc-add n (length d)) (ap (λ (t : List Bool). a ∷ t) (laid-is more n d))
laid-is (a ∷ more) zero [] = take-length (a ∷ more)
laid-is (a ∷ more) zero (x ∷ d) =
    let s : 0 + suc (length d) ≡ suc (0 + length d) = omega arith in
    rw s (ap (λ (t : List Bool). x ∷ t) (laid-is more zero d))

-- Writing from a place on is laying.

lay-past : (xs : List Bool) (n : ℕ) (d : List Bool) → length xs ≤ n → lay xs n d ≡ xs
lay-past [] n d h = refl
lay-past (a ∷ more) zero d h = absurd (omega arith)
lay-past (a ∷ more) (suc n) d h = ap (λ (t : List Bool). a ∷ t) (lay-past more n d (omega arith))

lay-step : (xs : List Bool) (n : ℕ) (x : Bool) (d : List Bool) → n < length xs → lay (set xs n x) (suc n) d ≡ lay xs n (x ∷ d)
lay-step [] n x d h = absurd (omega arith)
lay-step (a ∷ more) zero x d h = refl
lay-step (a ∷ more) (suc n) x d h = ap (λ (t : List Bool). a ∷ t) (lay-step more n x d (omega arith))

lay-nothing : (xs : List Bool) (n : ℕ) → lay xs n [] ≡ xs
lay-nothing [] n = refl
lay-nothing (a ∷ more) zero = refl
lay-nothing (a ∷ more) (suc n) = ap (λ (t : List Bool). a ∷ t) (lay-nothing more n)

in-range : (low w n : ℕ) → low ≡ 0 → n < w → (if nat_le low n && nat_lt (n - low) w then Some (n - low) else None) ≡ Some n
in-range low w n e h = elim (leb_tells low n) [
  | inl a ↦ elim (leb_tells (suc (n - low)) w) [
    | inl b ↦ let f : n - low ≡ n = omega arith in rw (a.0, b.0, f) refl
    | inr b ↦ absurd (let g = b.1 in omega arith)
  ]
  | inr a ↦ absurd (let g = a.1 in omega arith)
]

out-of-range : (low w n : ℕ) → low ≡ 0 → w ≤ n → (if nat_le low n && nat_lt (n - low) w then Some (n - low) else None) ≡ None
out-of-range low w n e h = elim (leb_tells low n) [
  | inl a ↦ elim (leb_tells (suc (n - low)) w) [
    | inl b ↦ absurd (let g = b.1 in omega arith)
    | inr b ↦ rw (a.0, b.0) refl
  ]
  | inr a ↦ absurd (let g = a.1 in omega arith)
]

written-lays : (v : Vector) (xs : List Bool) (n : ℕ) (d : List Bool) → v.low ≡ 0 → length xs ≡ v.width → written xs (bits_from v (pos n) (length d)) d ≡ lay xs n d
written-lays v xs n [] low long = sym (lay-nothing xs n)
written-lays v xs n (x ∷ d) low long = elim (leb_tells (suc n) v.width) [
  | inl a ↦
      let h : n < v.width = a.1 in
      let e : bit_at v (pos n) ≡ Some n = in-range v.low v.width n low h in
      let f : length (set xs n x) ≡ v.width = length-set xs n x ∙ long in
      let i : written (set xs n x) (bits_from v (pos (suc n)) (length d)) d ≡ lay (set xs n x) (suc n) d = written-lays v (set xs n x) (suc n) d low f in
      rw (e, add-one) (i ∙ lay-step xs n x d (rw long h))
  | inr a ↦
      let h : v.width ≤ n = omega (arith, a.1) in
      let e : bit_at v (pos n) ≡ None = out-of-range v.low v.width n low h in
      let i : written xs (bits_from v (pos (suc n)) (length d)) d ≡ lay xs (suc n) d = written-lays v xs (suc n) d low long in
      rw (e, add-one) (i ∙ lay-past xs (suc n) d (omega arith) ∙ sym (lay-past xs n (x ∷ d) (omega arith)))
]

-- the bits of the put's number
put-bits : (w : ℕ) (xs : List Bool) (n : ℕ) (d : List Bool) → length xs ≡ w → bits_of w (number (laid_at xs n d)) ≡ lay xs n d
put-bits w xs n d long =
    let wide : length (lay xs n d) ≡ w = length-lay xs n d ∙ long in
    ap (λ (t : List Bool). bits_of w (number t)) (laid-is xs n d) ∙ ap (λ (k : ℕ). bits_of k (number (lay xs n d))) (sym wide) ∙ bits_of-number (lay xs n d)

pub put-values : (a b : Building) (xs index bits : List Bit) (v : Vector) (at : Span) (nets : Nets) → AddsCell Put (xs ∷ index ∷ bits ∷ []) v.width at a b → RunsIn b nets → length xs ≡ v.width → v.low ≡ 0 → values nets (fresh_bits a.nets v.width) ≡ written (values nets xs) (bits_from v (pos (number (values nets index))) (length bits)) (values nets bits)
put-values a b xs index bits v at nets f runs long low =
    let n : ℕ = number (values nets index) in
    let wide : length (values nets xs) ≡ v.width = length-map xs (bit_value nets) ∙ long in
    let lays : written (values nets xs) (bits_from v (pos n) (length (values nets bits))) (values nets bits) ≡ lay (values nets xs) n (values nets bits) = written-lays v (values nets xs) n (values nets bits) low wide in
    let same : length (values nets bits) ≡ length bits = length-map bits (bit_value nets) in
    cell-values a b Put (xs ∷ index ∷ bits ∷ []) v.width at nets f runs ∙ put-bits v.width (values nets xs) n (values nets bits) wide ∙ sym lays ∙ rw same refl

-- An index as a cell has it names the same bits.

pub index-value : (nets : Nets) (s : Shape) (bits : List Bit) → length bits ≡ s.width → 1 ≤ s.width → number (values nets (index_bits s bits)) ≡ extended s (index_width s) (number (values nets bits))
index-value nets s bits long some =
    let w : ℕ = index_width s in
    let fill : Bit = fill_bit bits s.is_signed in
    let wide : s.width ≤ w = index_wide s in
    let whole : length (index_bits s bits) ≡ w = length-append bits (replicate (w - length bits) fill) ∙ ap (λ (k : ℕ). length bits + k) (length-replicate (w - length bits) fill) ∙ omega arith in
    extended_is nets bits (index_bits s bits) w s.is_signed fill (omega arith) (omega arith) refl whole (ap (λ (k : ℕ). bits ++ replicate (k - length bits) fill) (sym whole))
    ∙ ap (λ (k : ℕ). extended (record { width = k; is_signed = s.is_signed }) w (number (values nets bits))) long

-- an index below 0 has a number that no vector reaches
far : (s : Shape) (n : ℕ) → s.is_signed && nat_le (2 ^ (s.width - 1)) n ≡ true → 256 ≤ n + (2 ^ index_width s - 2 ^ s.width)
far s n e =
    let signed : s.is_signed ≡ true = and-left s.is_signed _ e in
    let high : 2 ^ (s.width - 1) ≤ n = leb-true (2 ^ (s.width - 1)) n (and-right s.is_signed _ e) in
    elim (leb_tells (suc s.width) 9) [
      | inl a ↦
          let small : 2 ^ s.width ≤ 2 ^ 8 = power_le s.width 8 (let h = a.1 in omega arith) in
          let wide : index_width s ≡ 9 = rw (signed, a.0) refl in
          rw wide (omega arith)
      | inr a ↦
          let great : 2 ^ 8 ≤ 2 ^ (s.width - 1) = power_le 8 (s.width - 1) (let h = a.1 in omega arith) in
          let wide : index_width s ≡ s.width = rw (signed, a.0) refl in
          rw wide (omega arith)
    ]

differ : (b : Bool) → b ≡ true → b ≡ false → ⊥
differ true e f = cc
differ false e f = cc

pub shown-places : (v : Vector) (s : Shape) (n count : ℕ) → v.low ≡ 0 → v.width ≤ 128 → 1 ≤ s.width → n < 2 ^ s.width → (s.is_signed ≡ false) ⊎ (count ≡ 1) → bits_from v (pos (extended s (index_width s) n)) count ≡ bits_from v (integer s n) count
shown-places v s n count low narrow some fits plain = go (is_negative s n) refl plain where
  go : (b : Bool) → is_negative s n ≡ b → (s.is_signed ≡ false) ⊎ (count ≡ 1) → bits_from v (pos (extended s (index_width s) n)) count ≡ bits_from v (integer s n) count
  go false e p = ap (λ (k : ℕ). bits_from v (pos k) count) (extended_positive s (index_width s) n e fits (index_wide s)) ∙ ap (λ (z : ℤ). bits_from v z count) (sym (integer_positive s n e))
  go true e (inl unsigned) = absurd (differ s.is_signed (and-left s.is_signed _ e) unsigned)
  go true e (inr one) =
      let beyond : 256 ≤ n + (2 ^ index_width s - 2 ^ s.width) = far s n e in
      let shown : extended s (index_width s) n ≡ n + (2 ^ index_width s - 2 ^ s.width) = extended_negative s (index_width s) n e fits (index_wide s) in
      let outside : bit_at v (pos (extended s (index_width s) n)) ≡ None = out-of-range v.low v.width (extended s (index_width s) n) low (omega (arith, beyond, shown, narrow)) in
      let none : bits_from v (pos (extended s (index_width s) n)) 1 ≡ None ∷ [] = ap (λ (o : Option ℕ). o ∷ []) outside in
      ap (bits_from v (pos (extended s (index_width s) n))) one ∙ none ∙ sym (ap (bits_from v (integer s n)) one ∙ ap (λ (z : ℤ). bits_from v z 1) (integer_negative s n e fits))
