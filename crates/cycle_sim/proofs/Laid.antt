-- Laying numbers on nets that are driven once.
use Rattle.cycle_sim.proofs.Common.{◌≡◌, ◌≢◌, ℕ, zero, suc, ◌+◌, ◌/◌, ◌%◌, ◌<◌, ◌≤◌, Bool, List, [], ◌∷◌, ◌++◌, length, nat_eq, get_or, set, refl, sym, ◌∙◌, subst, ◌⊎◌, inl, inr, arith, eqb_tells}
use Rattle.cycle_sim.proofs.Common.{cases_lt, Bit, Fixed, Net, Nets, times, times_at, with_net, laid, laid_all, with_net-same, laid-other, laid_all-other}

pub times-cases : (m n : ℕ) (more : List Bit) → ((m ≡ n) × (times n (Net m ∷ more) ≡ 1 + times n more)) ⊎ ((m ≢ n) × (times n (Net m ∷ more) ≡ times n more))
times-cases m n more = elim (eqb_tells m n) [
  | inl h ↦ inl (h.1, rw h.0 refl)
  | inr h ↦ inr (h.1, rw h.0 (let e : 0 + times n more ≡ times n more = omega arith in e))
]

pub times_at-append : (n : ℕ) (xs ys : List (List Bit)) → times_at n (xs ++ ys) ≡ times_at n xs + times_at n ys
times_at-append n [] ys = omega arith
times_at-append n (bits ∷ xs) ys = (let rest = times_at-append n xs ys in omega (arith, rest))

-- A net that is laid has a value that rests on the number alone, and any other keeps its own.

laid-any : (x y : Nets) (bits : List Bit) (v n : ℕ) → 1 ≤ times n bits → laid x bits v n ≡ laid y bits v n
laid-any x y [] v n some = absurd (omega (arith, some))
laid-any x y (Fixed b ∷ more) v n some = laid-any x y more (v / 2) n some
laid-any x y (Net m ∷ more) v n some =
    let b : Bool = nat_eq (v % 2) 1 in
    elim (cases_lt 0 (times n more)) [
      | inl again ↦ laid-any (with_net x m b) (with_net y m b) more (v / 2) n (omega (arith, again))
      | inr none ↦ elim (times-cases m n more) [
        | inl same ↦
            (let zero_more : times n more ≡ 0 = omega (arith, none) in
            let at : (z : Nets) → with_net z m b n ≡ b = λ z. subst (λ (k : ℕ). with_net z k b n ≡ b) (sym same.0) (with_net-same z n b) in
            laid-other (with_net x m b) more (v / 2) n zero_more ∙ at x ∙ sym (at y) ∙ sym (laid-other (with_net y m b) more (v / 2) n zero_more))
        | inr other ↦ absurd (omega (arith, some, none, other.1))
      ]
    ]

laid-start : (x y : Nets) (bits : List Bit) (v n : ℕ) → x n ≡ y n → laid x bits v n ≡ laid y bits v n
laid-start x y bits v n e = elim (cases_lt 0 (times n bits)) [
  | inl some ↦ laid-any x y bits v n (omega (arith, some))
  | inr none ↦ (let none_at : times n bits ≡ 0 = omega (arith, none) in laid-other x bits v n none_at ∙ e ∙ sym (laid-other y bits v n none_at))
]

laid_all-start : (x y : Nets) (ports : List (List Bit)) (vs : List ℕ) (n : ℕ) → x n ≡ y n → laid_all x ports vs n ≡ laid_all y ports vs n
laid_all-start x y [] vs n e = e
laid_all-start x y (bits ∷ more) [] n e = e
laid_all-start x y (bits ∷ more) (v ∷ vs) n e = laid_all-start (laid x bits v) (laid y bits v) more vs n (laid-start x y bits v n e)

-- One number changed.

set-at : (z : Nets) (ports : List (List Bit)) (vs : List ℕ) (d v n : ℕ) → times_at n ports ≤ 1 → length vs ≡ length ports → d < length ports → laid_all z ports (set vs d v) n ≡ laid (laid_all z ports vs) (get_or ports d []) v n
set-at z [] vs d v n once long inside = absurd (omega (arith, inside))
set-at z (bits ∷ more) [] d v n once long inside = absurd (omega (arith, long))
set-at z (bits ∷ more) (x ∷ vs) zero v n once long inside = elim (cases_lt 0 (times n bits)) [
  | inl here ↦ laid_all-other (laid z bits v) more vs n (omega (arith, once, here)) ∙ laid-any z (laid_all (laid z bits x) more vs) bits v n (omega (arith, here))
  | inr none ↦
      (let none_at : times n bits ≡ 0 = omega (arith, none) in
      laid_all-start (laid z bits v) (laid z bits x) more vs n (laid-other z bits v n none_at ∙ sym (laid-other z bits x n none_at)) ∙ sym (laid-other (laid_all (laid z bits x) more vs) bits v n none_at))
]
set-at z (bits ∷ more) (x ∷ vs) (suc d) v n once long inside = set-at (laid z bits x) more vs d v n (omega (arith, once)) (omega (arith, long)) (omega (arith, inside))

-- a number that is written is laid on its driver's nets
pub set-lays : (z : Nets) (ports : List (List Bit)) (vs : List ℕ) (d v : ℕ) → ((n : ℕ) → times_at n ports ≤ 1) → length vs ≡ length ports → d < length ports → laid_all z ports (set vs d v) ≡ laid (laid_all z ports vs) (get_or ports d []) v
set-lays z ports vs d v once long inside = λ i n. set-at z ports vs d v n (once n) long inside i
