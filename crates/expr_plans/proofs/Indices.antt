-- The place that an index names, as the bits of a cell tell it.
use Rattle.expr_plans.proofs.Common.{◌≡◌, ℕ, ◌+◌, ◌-◌, ◌*◌, ◌/◌, ◌%◌, ◌<◌, ◌≤◌, ◌^◌, ◌&&◌, Bool, true, false, pos, refl, sym, ap, ◌∙◌, arith, nat_le, nat_lt, Span, Fault, Shape, decl_low, Sense}
use Rattle.expr_plans.proofs.Common.{fault, is_empty, index_features, base_features, index_width}
use Rattle.std.specs.Prelude.{Option, List, [], ◌∷◌, ◌||◌, ◌==◌, not, if◌then◌else◌}
use Rattle.std.proofs.lemmas.Bool.Decides.{nat_tests}
use Rattle.std.proofs.lemmas.Nat.{pow-add}
use Rattle.vlog_meaning.specs.declared.fault.Cause.TheVariants.{IndexedBase}
use Rattle.vlog_meaning.specs.declared.scope.Decl.{Decl}
use Rattle.vlog_meaning.specs.Integers.{is_negative, integer, extended, window}
use Rattle.vlog_meaning.proofs.Powers.{power_le, no_bits_left, shifted_out}
use Rattle.vlog_meaning.proofs.Signs.{integer_negative, integer_positive, extended_negative, extended_positive}

wide_by : (b : Bool) (w : ℕ) → nat_lt w 9 ≡ b → w ≤ (if b then 9 else w)
wide_by true w e = grind (arith, nat_tests)
wide_by false w e = omega arith

least_by : (b : Bool) (w : ℕ) → nat_lt w 9 ≡ b → 9 ≤ (if b then 9 else w)
least_by true w e = omega arith
least_by false w e = grind (arith, nat_tests)

narrow_by : (b : Bool) (w n : ℕ) → 9 ≤ n → w ≤ n → (if b then 9 else w) ≤ n
narrow_by true w n some le = some
narrow_by false w n some le = le

-- an index is not cut
pub index_wide : (s : Shape) → s.width ≤ index_width s
index_wide s = go s.is_signed where
  go : (b : Bool) → s.width ≤ (if b && nat_lt s.width 9 then 9 else s.width)
  go true = wide_by (nat_lt s.width 9) s.width refl
  go false = omega arith

pub index_narrow : (s : Shape) → s.width ≤ 128 → index_width s ≤ 128
index_narrow s le = narrow_by (s.is_signed && nat_lt s.width 9) s.width 128 (omega arith) le

signed_by : (b : Bool) (w : ℕ) → b ≡ true → 9 ≤ (if b && nat_lt w 9 then 9 else w)
signed_by true w e = least_by (nat_lt w 9) w refl
signed_by false w e = cc

-- a negative one lies above 128 bits
above : (w n v : ℕ) → 1 ≤ n → n ≤ w → 9 ≤ w → 2 ^ (n - 1) ≤ v → 128 ≤ v + (2 ^ w - 2 ^ n)
above w n v some le wide high =
    let half : 2 ^ n ≡ 2 ^ (n - 1) + 2 ^ (n - 1) = let e : n ≡ 1 + (n - 1) = omega arith in let f : 2 ^ (1 + (n - 1)) ≡ 2 ^ 1 * 2 ^ (n - 1) = pow-add 2 1 (n - 1) in ap (λ (k : ℕ). 2 ^ k) e ∙ f ∙ omega arith in
    let whole : 2 ^ w ≡ 2 ^ (w - 1) + 2 ^ (w - 1) = let e : w ≡ 1 + (w - 1) = omega arith in let f : 2 ^ (1 + (w - 1)) ≡ 2 ^ 1 * 2 ^ (w - 1) = pow-add 2 1 (w - 1) in ap (λ (k : ℕ). 2 ^ k) e ∙ f ∙ omega arith in
    let more : 2 ^ (n - 1) ≤ 2 ^ (w - 1) = power_le (n - 1) (w - 1) (omega arith) in
    let big : 2 ^ 8 ≤ 2 ^ (w - 1) = power_le 8 (w - 1) (omega arith) in
    omega (arith, half, whole, more, big, high)

negative_high : (s : Shape) (v : ℕ) → is_negative s v ≡ true → (s.is_signed ≡ true) × (2 ^ (s.width - 1) ≤ v)
negative_high s v n = go s.is_signed (nat_le (2 ^ (s.width - 1)) v) refl n where
  go : (b c : Bool) → nat_le (2 ^ (s.width - 1)) v ≡ c → b && c ≡ true → (b ≡ true) × (2 ^ (s.width - 1) ≤ v)
  go true true e h = (refl, grind (arith, nat_tests))
  go true false e h = cc
  go false c e h = cc

-- One bit at an index, and so many from one without a sign on, are the same by the bits of the cell.
pub index_window : (s : Shape) (v size x : ℕ) → 1 ≤ s.width → v < 2 ^ s.width → x < 2 ^ 128 → (s.is_signed ≡ true → size ≡ 1) → window (pos (extended s (index_width s) v)) size x ≡ window (integer s v) size x
index_window s v size x some fits small one = go (is_negative s v) refl where
  go : (b : Bool) → is_negative s v ≡ b → window (pos (extended s (index_width s) v)) size x ≡ window (integer s v) size x
  go false e = ap (λ (k : ℕ). window (pos k) size x) (extended_positive s (index_width s) v e fits (index_wide s)) ∙ ap (λ z. window z size x) (sym (integer_positive s v e))
  go true e =
      let high = negative_high s v e in
      let is_one : size ≡ 1 = one high.0 in
      let wide : 9 ≤ index_width s = signed_by s.is_signed s.width high.0 in
      let far : 128 ≤ v + (2 ^ index_width s - 2 ^ s.width) = above (index_width s) s.width v some (index_wide s) wide high.1 in
      let left : x / 2 ^ (v + (2 ^ index_width s - 2 ^ s.width)) ≡ 0 = no_bits_left x (v + (2 ^ index_width s - 2 ^ s.width)) small far in
      let none : 0 % 2 ^ 1 ≡ 0 = refl in
      let out : x * 2 ^ (2 ^ s.width - 1 - v + 1) % 2 ^ 1 ≡ 0 = shifted_out x (2 ^ s.width - 1 - v + 1) 1 (omega arith) in
      ap (λ (k : ℕ). window (pos k) size x) (extended_negative s (index_width s) v e fits (index_wide s))
      ∙ ap (λ (k : ℕ). window (pos (v + (2 ^ index_width s - 2 ^ s.width))) k x) is_one
      ∙ ap (λ (k : ℕ). k % 2 ^ 1) left ∙ sym out
      ∙ sym (ap (λ (k : ℕ). window (integer s v) k x) is_one ∙ ap (λ z. window z 1 x) (integer_negative s v e fits))

-- A base that is supported counts from 0, and has no sign.

pub base_indexed : (span : Span) (d : Option Decl) (b : Sense) → base_features span d b ≡ [] → index_features span d b ≡ []
base_indexed span d b none = go (is_empty b.signals) (decl_low d == 0) (is_empty b.faults && b.shape.is_signed) none where
  go : (e z f : Bool) → (if e || (z && not f) then [] else fault IndexedBase span ∷ []) ≡ [] → (if z || e then [] else fault IndexedBase span ∷ []) ≡ []
  go true true f h = refl
  go true false f h = refl
  go false true f h = refl
  go false false f h = cc

pub base_unsigned : (span : Span) (d : Option Decl) (b : Sense) → base_features span d b ≡ [] → is_empty b.signals ≡ false → b.faults ≡ [] → b.shape.is_signed ≡ false
base_unsigned span d b none varies whole = go (is_empty b.signals) (decl_low d == 0) b.faults b.shape.is_signed none varies whole where
  go : (e z : Bool) (fs : List Fault) (s : Bool) → (if e || (z && not (is_empty fs && s)) then [] else fault IndexedBase span ∷ []) ≡ [] → e ≡ false → fs ≡ [] → s ≡ false
  go true z fs s h e f = cc
  go false z fs false h e f = refl
  go false z (x ∷ fs) true h e f = cc
  go false true [] true h e f = cc
  go false false [] true h e f = cc
