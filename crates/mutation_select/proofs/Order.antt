-- Lists in a total order whose elements have numbers of their own.
use Rattle.mutation_select.proofs.Common.{◌≡◌, ◌≢◌, ℕ, suc, ◌≤◌, ◌<◌, true, false, true≢false, List, [], ◌∷◌, ◌++◌, length, get_or, refl, sym, ap, ◌∙◌, inl, inr, arith, eqb, ⊤, IsTotalOrder}
use Rattle.mutation_select.proofs.Common.{nat_cmp_is, count_by, AllByRecursion, IsSorted, Ordering, Less, Equal, Greater, is_lt, is_gt, nat_cmp, ordering_reverse, ordering_then, cases_order, eq-eqb}
use Rattle.mutation_select.proofs.Common.{upto, tied_itself, recursion_from_All, ranks_by, sorted_far}
use Rattle.mutation_select.proofs.Counts.{count-append, count-hit, count-more, sorted-tail}

-- what two orders answer, one after the other, is equal only where both are
pub equal-last : (r s : Ordering) → ordering_then r s ≡ Equal → s ≡ Equal
equal-last Less s h = absurd (true≢false (ap is_lt h))
equal-last Equal s h = h
equal-last Greater s h = absurd (true≢false (ap is_gt h))

pub equal-numbers : (a b : ℕ) → nat_cmp a b ≡ Equal → a ≡ b
equal-numbers a b h = elim (cases_order a b) [
  | inl same ↦ same
  | inr (inl less) ↦ absurd (true≢false (ap is_lt (nat_cmp_is a b Less less ∙ h)))
  | inr (inr more) ↦ absurd (true≢false (ap is_gt (nat_cmp_is a b Greater more ∙ h)))
]

module _ {X : Type 0} (R : X → X → Ordering) (o : IsTotalOrder R) (number : X → ℕ) (tells : (x y : X) → R x y ≡ Equal → number x ≡ number y) where
  -- how many have the number
  abbrev pub having : ℕ → List X → ℕ
  having n = count_by (λ x. eqb n (number x))

  pub not-itself : (x : X) → is_lt (R x x) ≡ false
  not-itself x = ap is_lt (tied_itself o x)

  turned-by : (x y : X) (r s : Ordering) → R x y ≡ r → R y x ≡ s → s ≡ ordering_reverse r → is_lt s ≡ false → number x ≢ number y → is_lt r ≡ true
  turned-by x y Less s is back turn h apart = refl
  turned-by x y Equal s is back turn h apart = absurd (apart (tells x y is))
  turned-by x y Greater s is back turn h apart = absurd (true≢false (ap is_lt (sym turn) ∙ h))

  pub turned : (x y : X) → is_lt (R y x) ≡ false → number x ≢ number y → is_lt (R x y) ≡ true
  turned x y h apart = turned-by x y (R x y) (R y x) refl refl (o.antisymm y x) h apart

  off-by : (r s : Ordering) → s ≡ ordering_reverse r → is_lt r ≡ true → is_lt s ≡ false
  off-by Less s turn h = ap is_lt turn
  off-by Equal s turn h = absurd (true≢false (sym h))
  off-by Greater s turn h = absurd (true≢false (sym h))

  pub turned-off : (x y : X) → is_lt (R x y) ≡ true → is_lt (R y x) ≡ false
  turned-off x y h = off-by (R x y) (R y x) (o.antisymm y x) h

  above-by : (r s : Ordering) → s ≡ ordering_reverse r → is_lt r ≡ false → is_gt s ≡ false
  above-by Less s turn h = absurd (true≢false h)
  above-by Equal s turn h = ap is_gt turn
  above-by Greater s turn h = ap is_gt turn

  below-by : (r s : Ordering) → s ≡ ordering_reverse r → is_gt r ≡ false → is_lt s ≡ false
  below-by Less s turn h = ap is_lt turn
  below-by Equal s turn h = ap is_lt turn
  below-by Greater s turn h = absurd (true≢false h)

  -- where z is not below y, nor y below x, z is not below x
  pub chained : (x y z : X) → is_lt (R y x) ≡ false → is_lt (R z y) ≡ false → is_lt (R z x) ≡ false
  chained x y z h k =
      below-by (R x z) (R z x) (o.antisymm z x) (upto o x y z (above-by (R y x) (R x y) (o.antisymm x y) h) (above-by (R z y) (R y z) (o.antisymm y z) k))

  -- elements of the two parts of such a list have different numbers
  pub differs : (front back : List X) (i j : ℕ) (d e : X) → i < length front → j < length back → ((n : ℕ) → having n (front ++ back) ≤ 1) → number (get_or front i d) ≢ number (get_or back j e)
  differs front back i j d e h k once same =
      let n = number (get_or front i d) in
      let p = λ (x : X). eqb n (number x) in
      absurd (omega (arith, once n, count-append p front back, count-hit p front i d h (eq-eqb n n refl), count-hit p back j e k (eq-eqb n (number (get_or back j e)) same)))

  -- each is less than those behind it
  abbrev pub Rises : List X → Type 0
  Rises [] = ⊤
  Rises (x ∷ xs) = AllByRecursion (λ y. is_lt (R x y) ≡ true) xs × Rises xs

  pub sorted-rises : (xs : List X) → IsSorted R xs → ((n : ℕ) → having n xs ≤ 1) → Rises xs
  sorted-rises [] sorted once = tt
  sorted-rises (x ∷ xs) sorted once =
      let test = λ (a b : X). is_lt (R a b) in
      let far = λ (j : ℕ) (d : X) (h : j < length xs). sorted_far test (ranks_by o (λ y. y)) (x ∷ xs) sorted 0 (suc j) d (omega arith) (omega (arith, h)) in
      let apart = λ (j : ℕ) (d : X) (h : j < length xs). differs (x ∷ []) xs 0 j d d (omega arith) h once in (
        recursion_from_All (λ y. is_lt (R x y) ≡ true) xs (λ j d h. turned x (get_or xs j d) (far j d h) (apart j d h)),
        sorted-rises xs (sorted-tail test x xs sorted) (λ n. omega (arith, once n, count-more (λ y. eqb n (number y)) x xs)),
      )
