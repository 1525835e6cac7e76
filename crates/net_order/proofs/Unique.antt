-- Two orders of the same nodes are one.
use Rattle.net_order.proofs.Common.{◌≡◌, ℕ, zero, suc, ◌<◌, ◌≤◌, List, [], ◌∷◌, ◌++◌, length, take, get_or, inl, inr, refl, sym, ◌∙◌, ap, subst, arith, Contains, cases_lt, IsLeastReady, IsOrder}
use Rattle.std.proofs.Math.Seq.{take-suc, take-length}

module _ (count : ℕ) (R : ℕ → ℕ → Type 0) (xs ys : List ℕ) (x : IsOrder count R xs) (y : IsOrder count R ys) where
  -- they begin alike
  same-front : (k : ℕ) → k ≤ length xs → k ≤ length ys → take k xs ≡ take k ys
  same-front zero in_x in_y = refl
  same-front (suc k) in_x in_y =
      let front : take k xs ≡ take k ys = same-front k (omega (arith, in_x)) (omega (arith, in_y)) in
      let a : IsLeastReady count R (take k xs) (get_or xs k 0) = x.places k (omega (arith, in_x)) in
      let b : IsLeastReady count R (take k ys) (get_or ys k 0) = y.places k (omega (arith, in_y)) in
      let c : IsLeastReady count R (take k xs) (get_or ys k 0) = subst (λ (l : List ℕ). IsLeastReady count R l (get_or ys k 0)) (sym front) b in
      let same : get_or xs k 0 ≡ get_or ys k 0 = omega (arith, a.least (get_or ys k 0) c.ready, c.least (get_or xs k 0) a.ready) in
      take-suc xs k 0 (omega (arith, in_x)) ∙ ap (λ (l : List ℕ). l ++ get_or xs k 0 ∷ []) front ∙ ap (λ (d : ℕ). take k ys ++ d ∷ []) same ∙ sym (take-suc ys k 0 (omega (arith, in_y)))

  -- the one isn't shorter, since all nodes stand in it
  not-shorter : length xs < length ys → ⊥
  not-shorter less =
      let front : xs ≡ take (length xs) ys = sym (take-length xs) ∙ same-front (length xs) (omega arith) (omega (arith, less)) in
      let next : IsLeastReady count R (take (length xs) ys) (get_or ys (length xs) 0) = y.places (length xs) less in
      next.ready.unlisted (subst (λ (l : List ℕ). Contains l (get_or ys (length xs) 0)) front (x.each (get_or ys (length xs) 0) next.ready.node))

pub orders-one : (count : ℕ) (R : ℕ → ℕ → Type 0) (xs ys : List ℕ) → IsOrder count R xs → IsOrder count R ys → xs ≡ ys
orders-one count R xs ys x y = elim (cases_lt (length xs) (length ys)) [
  | inl less ↦ absurd (not-shorter count R xs ys x y less)
  | inr more ↦ elim (cases_lt (length ys) (length xs)) [
    | inl less ↦ absurd (not-shorter count R ys xs y x less)
    | inr none ↦
        let same : length xs ≡ length ys = omega (arith, more, none) in
        sym (take-length xs) ∙ same-front count R xs ys x y (length xs) (omega arith) (omega (arith, same)) ∙ ap (λ (k : ℕ). take k ys) same ∙ take-length ys
  ]
]
