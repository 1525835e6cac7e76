-- What of a window lies in its signal.
use Rattle.tb_assigns.proofs.Common.{◌≡◌, zero, suc, ℕ, ◌+◌, ◌-◌, ◌/◌, ◌^◌, min, ap, sym, ◌∙◌, arith, ℤ, pos, neg_ℤ, ◌-ℤ◌, if◌then◌else◌, ints, bound_integer, Vector, some_bits, clipped}
use Rattle.std.specs.Prelude.{Bool, true}
use Rattle.vlog_meaning.specs.declared.bound.Bound.{Bound}

pub whole : (v : ℕ) → v / 2 ^ 0 ≡ v
whole v = omega arith

-- a window that begins so many bits below its signal
clipped_below_at : (x : Vector) (n size v : ℕ) → some_bits x.number 0 (min (size - n) x.width) (v / 2 ^ n) ≡ clipped x (neg_ℤ (pos n)) size v
clipped_below_at x zero size v = let e : min (size - 0) x.width ≡ min size (x.width - 0) = omega arith in ap (λ (m : ℕ). some_bits x.number 0 m (v / 2 ^ 0)) e ∙ ap (some_bits x.number 0 (min size (x.width - 0))) (whole v)
clipped_below_at x (suc k) size v = let e : suc k ≡ k + 1 = omega arith in ap (λ (m : ℕ). some_bits x.number 0 (min (size - m) x.width) (v / 2 ^ m)) e

below_is : (b : Bound) (low : ℕ) → b.is_negative ≡ true → bound_integer b -ℤ pos low ≡ neg_ℤ (pos (b.magnitude + low))
below_is b low e =
    let f : neg_ℤ (pos b.magnitude) -ℤ pos low ≡ neg_ℤ (pos (b.magnitude + low)) = omega (arith, ints) in
    ap (λ (t : Bool). (if t then neg_ℤ (pos b.magnitude) else pos b.magnitude) -ℤ pos low) e ∙ f

pub negative_below : (x : Vector) (b : Bound) (size v : ℕ) → b.is_negative ≡ true → some_bits x.number 0 (min (size - (b.magnitude + x.low)) x.width) (v / 2 ^ (b.magnitude + x.low)) ≡ clipped x (bound_integer b -ℤ pos x.low) size v
negative_below x b size v e = clipped_below_at x (b.magnitude + x.low) size v ∙ ap (λ (z : ℤ). clipped x z size v) (sym (below_is b x.low e))
