-- As many free literals as there are free variables at most.
use Rattle.sat_solver.proofs.Common.{◌≡◌, ℕ, zero, suc, ◌+◌, ◌≤◌, Bool, true, false, cond, ◌||◌, List, [], ◌∷◌, length, ℤ, refl, ap, inl, inr, nat_eq, arith, eqb_tells, variable, is_named, AreFree}

without : ℕ → List ℤ → List ℤ
without v [] = []
without v (l ∷ more) = cond (nat_eq v (variable l)) (without v more) (l ∷ without v more)

unnamed-without : (v w : ℕ) (lits : List ℤ) → is_named lits w ≡ false → is_named (without v lits) w ≡ false
unfolding without
unnamed-without v w [] h = refl
unnamed-without v w (l ∷ more) h = elim (nat_eq v (variable l)) as (λ (b : Bool). is_named (cond b (without v more) (l ∷ without v more)) w ≡ false) [
  | true ↦ unnamed-without v w more (or_right (nat_eq w (variable l)) (is_named more w) h)
  | false ↦ rw (or_left (nat_eq w (variable l)) (is_named more w) h, unnamed-without v w more (or_right (nat_eq w (variable l)) (is_named more w) h)) refl
] where
  or_left : (a b : Bool) → (a || b) ≡ false → a ≡ false
  or_left true b e = e
  or_left false b e = refl

  or_right : (a b : Bool) → (a || b) ≡ false → b ≡ false
  or_right true b e = cc
  or_right false b e = e

free-without : (f : ℕ) (lits : List ℤ) → AreFree (suc f) lits → AreFree f (without (suc f) lits)
unfolding without
free-without f [] are = tt
free-without f (l ∷ more) are = elim (eqb_tells (suc f) (variable l)) [
  | inl same ↦ rw same.0 (free-without f more are.3)
  | inr other ↦ rw other.0 (are.0, omega (arith, are.1, other.1), unnamed-without (suc f) (variable l) more are.2, free-without f more are.3)
]

length-unnamed : (v : ℕ) (lits : List ℤ) → is_named lits v ≡ false → length (without v lits) ≡ length lits
unfolding without
length-unnamed v [] h = refl
length-unnamed v (l ∷ more) h = elim (eqb_tells v (variable l)) [
  | inl same ↦ absurd (let wrong : true ≡ false = rw same.0 at h in cc)
  | inr other ↦ rw other.0 (ap suc (length-unnamed v more (rw other.0 at h)))
]

length-without : (f v : ℕ) (lits : List ℤ) → AreFree f lits → length lits ≤ length (without v lits) + 1
unfolding without
length-without f v [] are = omega arith
length-without f v (l ∷ more) are = elim (eqb_tells v (variable l)) [
  | inl same ↦ rw same.0 (let e : length (without v more) ≡ length more = length-unnamed v more (rw (← same.1) at are.2) in omega (arith, e))
  | inr other ↦ rw other.0 (omega (arith, length-without f v more are.3))
]

-- a lemma has at most as many literals as there are free bits
pub length-free : (free : ℕ) (lits : List ℤ) → AreFree free lits → length lits ≤ free
length-free zero [] are = omega arith
length-free zero (l ∷ more) are = absurd (omega (arith, are.0, are.1))
length-free (suc f) lits are = omega (arith, length-without (suc f) (suc f) lits are, length-free f (without (suc f) lits) (free-without f lits are))
