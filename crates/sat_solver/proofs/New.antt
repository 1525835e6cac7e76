-- Why no lemma contains an earlier one.
use Rattle.sat_solver.proofs.Common.{◌≡◌, ℕ, zero, suc, ◌<◌, Bool, true, false, not, cond, ◌||◌, List, [], ◌∷◌, length, drop, get_or, ℤ, None, refl, ap, sym, ◌∙◌, inl, inr, ◌⊎◌, subst, nat_eq, arith}
use Rattle.sat_solver.proofs.Common.{All, Contains, eqb_tells, All-head, All-tail, All-weaker, variable, Known, literal, is_some_false, left, IsQuiet, is_named, AreFree, IsWithin, IsFalse, literal_at}
use Rattle.sat_solver.proofs.Choosing.{is-open}

-- a literal whose variable no literal of the list names isn't one of them
not-in : (lits : List ℤ) (x : ℤ) → is_named lits (variable x) ≡ false → Contains lits x → ⊥
not-in [] x h (k, within, e) = omega (arith, within)
not-in (y ∷ ys) x h (zero, within, e) = elim (eqb_tells (variable x) (variable y)) [ inl same ↦ (let wrong : true ≡ false = rw same.0 at h in cc) | inr other ↦ other.1 (ap variable (sym e)) ]
not-in (y ∷ ys) x h (suc k, within, e) = not-in ys x (or_right (nat_eq (variable x) (variable y)) (is_named ys (variable x)) h) (k, omega (arith, within), e) where
  or_right : (a b : Bool) → (a || b) ≡ false → b ≡ false
  or_right true b e = cc
  or_right false b e = e

-- where all literals but this one are false, nothing is left or this one alone
pub left-at-most : (free : ℕ) (known : Known) (t : ℤ) (lits : List ℤ) → AreFree free lits → All (λ l. IsFalse known l ⊎ (l ≡ t)) lits → ((left known lits ≡ []) ⊎ ((left known lits ≡ t ∷ []) × (is_some_false (literal known t) ≡ false))) × ((Contains lits t → ⊥) → left known lits ≡ [])
left-at-most free known t [] are all = (inl refl, λ none_. refl)
left-at-most free known t (x ∷ xs) are all =
    let P : ℤ → Type 0 = λ l. IsFalse known l ⊎ (l ≡ t) in
    let rest = left-at-most free known t xs are.3 (All-tail P x xs all) in
    let Q : Bool → Type 0 = λ b. is_some_false (literal known x) ≡ b → ((cond (not b) (x ∷ left known xs) (left known xs) ≡ []) ⊎ ((cond (not b) (x ∷ left known xs) (left known xs) ≡ t ∷ []) × (is_some_false (literal known t) ≡ false))) × ((Contains (x ∷ xs) t → ⊥) → cond (not b) (x ∷ left known xs) (left known xs) ≡ []) in
    elim (is_some_false (literal known x)) as Q [
      | true ↦ λ e. (rest.0, λ none_. rest.1 (λ in'. none_ (suc in'.0, omega (arith, in'.1), in'.2)))
      | false ↦ λ e. elim (All-head P x xs all) [
        | inl is ↦ absurd (let wrong : false ≡ true = sym e ∙ is in cc)
        | inr same ↦
            let empty : left known xs ≡ [] = rest.1 (λ in'. not-in xs x are.2 (let R : ℤ → Type 0 = Contains xs in subst R (sym same) in')) in
            (inr (rw (empty, same) refl, rw (← same) e), λ none_. absurd (none_ (0, omega arith, same)))
      ]
    ] refl

-- Of a lemma whose literals but the first are false, a quiet clause of free literals isn't a part, where the first is open.
pub new-by_quiet : (free : ℕ) (known : Known) (lemma earlier : List ℤ) → AreFree free earlier → IsQuiet known earlier → All (IsFalse known) (drop 1 lemma) → (0 < length lemma → IsFalse known (literal_at lemma 0) ⊎ (literal known (literal_at lemma 0) ≡ None)) → IsWithin earlier lemma → ⊥
new-by_quiet free known [] earlier are quiet below first within =
    let all : All (IsFalse known) earlier = λ k d h. (let in' : Contains [] (get_or earlier k d) = within k d h in let no_one : in'.0 < 0 = in'.1 in absurd (omega arith)) in
    quiet.not_false (none-left known earlier all) where
      none-left : (known : Known) (lits : List ℤ) → All (IsFalse known) lits → left known lits ≡ []
      none-left known [] all = refl
      none-left known (x ∷ xs) all = rw (All-head (IsFalse known) x xs all) (none-left known xs (All-tail (IsFalse known) x xs all))
new-by_quiet free known (t ∷ more) earlier are quiet below first within =
    let each : All (λ l. IsFalse known l ⊎ (l ≡ t)) earlier = All-weaker (Contains (t ∷ more)) (λ l. IsFalse known l ⊎ (l ≡ t)) (λ l in'. split in') earlier within in
    let left_ = left-at-most free known t earlier are each in
    elim left_.0 [
      | inl none_ ↦ quiet.not_false none_
      | inr one ↦ elim (first (omega arith)) [
        | inl false_ ↦ (let wrong : true ≡ false = sym false_ ∙ one.1 in cc)
        | inr open_ ↦ quiet.not_unit t (record { alone = one.0; open_ = open_ })
      ]
    ] where
      split : {l : ℤ} → Contains (t ∷ more) l → IsFalse known l ⊎ (l ≡ t)
      split {l = l} (zero, h, e) = inr (sym e)
      split {l = l} (suc k, h, e) = let P : ℤ → Type 0 = IsFalse known in inl (subst P e (below k l (omega (arith, h))))

-- with two open literals in front a clause is quiet
pub quiet-by_two : (known : Known) (lemma : List ℤ) → 1 < length lemma → known (variable (literal_at lemma 0)) ≡ None → known (variable (literal_at lemma 1)) ≡ None → IsQuiet known lemma
quiet-by_two known [] h a b = absurd (omega (arith, h))
quiet-by_two known (x ∷ []) h a b = absurd (omega (arith, h))
quiet-by_two known (x ∷ y ∷ more) h a b =
    let two : left known (x ∷ y ∷ more) ≡ x ∷ y ∷ left known more = rw (is-open known x a, is-open known y b) refl in
    record {
      not_false = λ e. let wrong : x ∷ y ∷ left known more ≡ [] = sym two ∙ e in cc;
      not_unit = λ l unit. let wrong : x ∷ y ∷ left known more ≡ l ∷ [] = sym two ∙ unit.alone in cc;
    }
