-- How many literals of a clause are false and true, and what that says of it.
use Rattle.sat_solver.proofs.Common.{◌≡◌, ◌≢◌, ℕ, zero, suc, ◌+◌, ◌*◌, ◌<◌, ◌≤◌, Bool, true, false, not, cond, List, [], ◌∷◌, length, get_or, ℤ, pos, negsuc, neg_ℤ, Option, Some, None, refl, ap, sym}
use Rattle.sat_solver.proofs.Common.{◌∙◌, inl, inr, nat_eq, arith, All, count_by, eqb_tells, All-head, All-tail, sum_by-cons, count_by-le-length, variable, Known, with_true, is_positive, literal}
use Rattle.sat_solver.proofs.Common.{left, IsQuiet, literal-same, place_of, is_literal, times, is_value, valued, ShowQuiet}
use Rattle.sat_solver.proofs.Listed.{variable-neg}
use Rattle.sat_solver.proofs.Walks.{with_true-other, with_true-same}

abbrev bit : Bool → ℕ
bit b = cond b 1 0

-- counts add up where they do at each literal
count-plus : (p q r : ℤ → Bool) (clause : List ℤ) → All (λ k. bit (p k) ≡ bit (q k) + bit (r k)) clause → count_by p clause ≡ count_by q clause + count_by r clause
count-plus p q r [] all = refl
count-plus p q r (k ∷ more) all =
    let here : bit (p k) ≡ bit (q k) + bit (r k) = All-head (λ k. bit (p k) ≡ bit (q k) + bit (r k)) k more all in
    let rest = count-plus p q r more (All-tail (λ k. bit (p k) ≡ bit (q k) + bit (r k)) k more all) in
    let a : count_by p (k ∷ more) ≡ bit (p k) + count_by p more = sum_by-cons (λ (k : ℤ). cond (p k) 1 0) k more in
    let b : count_by q (k ∷ more) ≡ bit (q k) + count_by q more = sum_by-cons (λ (k : ℤ). cond (q k) 1 0) k more in
    let d : count_by r (k ∷ more) ≡ bit (r k) + count_by r more = sum_by-cons (λ (k : ℤ). cond (r k) 1 0) k more in
    omega (arith, here, rest, a, b, d)

-- Two literals of one place are of one variable.
place-variable : (l k : ℤ) → place_of l ≡ place_of k → variable l ≡ variable k
place-variable (pos a) (pos b) e = omega (arith, e)
place-variable (pos a) (negsuc b) e = absurd (omega (arith, e))
place-variable (negsuc a) (pos b) e = absurd (omega (arith, e))
place-variable (negsuc a) (negsuc b) e = omega (arith, e)

apart-literal : (l k : ℤ) → variable l ≢ variable k → is_literal l k ≡ false
apart-literal l k h = elim (eqb_tells (place_of l) (place_of k)) [ inl same ↦ absurd (h (place-variable l k same.1)) | inr other ↦ other.0 ]

-- a literal's value where its variable has this one
abbrev signed : ℤ → Bool → Bool
signed (pos n) b = b
signed (negsuc n) b = not b

literal-some : (known : Known) (k : ℤ) (b : Bool) → known (variable k) ≡ Some b → literal known k ≡ Some (signed k b)
literal-some known (pos n) b e = e
literal-some known (negsuc n) b e = ap (Rattle.std.proofs.Common.option_map not) e

literal-none : (known : Known) (k : ℤ) → known (variable k) ≡ None → literal known k ≡ None
literal-none known (pos n) e = e
literal-none known (negsuc n) e = ap (Rattle.std.proofs.Common.option_map not) e

is-place : (a b : ℕ) → a ≡ b → true ≡ nat_eq a b
is-place a b e = elim (eqb_tells a b) [ inl same ↦ sym same.0 | inr other ↦ absurd (other.1 e) ]

not-place : (a b : ℕ) → a ≢ b → false ≡ nat_eq a b
not-place a b h = elim (eqb_tells a b) [ inl same ↦ absurd (h same.1) | inr other ↦ sym other.0 ]

sign-true : (m k : ℤ) → variable k ≡ variable m → signed k (is_positive m) ≡ is_literal m k
sign-true (pos a) (pos b) e = is-place (2 * a) (2 * b) (omega (arith, e))
sign-true (pos a) (negsuc b) e = not-place (2 * a) (2 * b + 1) (λ w. omega (arith, w))
sign-true (negsuc a) (pos b) e = not-place (2 * a + 1) (2 * b) (λ w. omega (arith, w))
sign-true (negsuc a) (negsuc b) e = is-place (2 * a + 1) (2 * b + 1) (omega (arith, e))

sign-false : (m k : ℤ) → variable k ≡ variable m → 0 < variable k → not (signed k (is_positive m)) ≡ is_literal (neg_ℤ m) k
sign-false (pos zero) k e h = absurd (omega (arith, e, h))
sign-false (pos (suc a)) (pos b) e h = not-place (2 * a + 1) (2 * b) (λ w. omega (arith, w))
sign-false (pos (suc a)) (negsuc b) e h = is-place (2 * a + 1) (2 * b + 1) (omega (arith, e))
sign-false (negsuc a) (pos b) e h = is-place (2 * suc a) (2 * b) (omega (arith, e))
sign-false (negsuc a) (negsuc b) e h = not-place (2 * suc a) (2 * b + 1) (λ w. omega (arith, w))

module _ (known : Known) (m : ℤ) (open_ : known (variable m) ≡ None) where
  -- a literal of another variable keeps its value
  value-other : (b : Bool) (l k : ℤ) → variable l ≡ variable m → variable k ≢ variable m → bit (is_value b (literal (with_true known m) k)) ≡ bit (is_value b (literal known k)) + bit (is_literal l k)
  value-other b l k same other =
      let value : bit (is_value b (literal (with_true known m) k)) ≡ bit (is_value b (literal known k)) = ap (λ (o : Option Bool). bit (is_value b o)) (literal-same (with_true known m) known k (with_true-other known m (variable k) other)) in
      let none_ : bit (is_literal l k) ≡ 0 = ap bit (apart-literal l k (λ e. other (sym e ∙ same))) in
      omega (arith, value, none_)

  value-same : (b : Bool) (l k : ℤ) → variable k ≡ variable m → is_value b (Some (signed k (is_positive m))) ≡ is_literal l k → bit (is_value b (literal (with_true known m) k)) ≡ bit (is_value b (literal known k)) + bit (is_literal l k)
  value-same b l k same sign =
      let now : literal (with_true known m) k ≡ Some (signed k (is_positive m)) = literal-some (with_true known m) k (is_positive m) (ap (with_true known m) same ∙ with_true-same known m) in
      let was : literal known k ≡ None = literal-none known k (ap known same ∙ open_) in
      let new : bit (is_value b (literal (with_true known m) k)) ≡ bit (is_literal l k) = ap (λ (o : Option Bool). bit (is_value b o)) now ∙ ap bit sign in
      let old : bit (is_value b (literal known k)) ≡ 0 = ap (λ (o : Option Bool). bit (is_value b o)) was ∙ none-value b in
      omega (arith, new, old) where
        none-value : (b : Bool) → bit (is_value b None) ≡ 0
        none-value true = refl
        none-value false = refl

  -- the counts where a literal is made true
  pub valued-true : (clause : List ℤ) → valued (with_true known m) true clause ≡ valued known true clause + times m clause
  valued-true clause = count-plus (λ k. is_value true (literal (with_true known m) k)) (λ k. is_value true (literal known k)) (is_literal m) clause (λ i d h. each (get_or clause i d)) where
    each : (k : ℤ) → bit (is_value true (literal (with_true known m) k)) ≡ bit (is_value true (literal known k)) + bit (is_literal m k)
    each k = elim (eqb_tells (variable k) (variable m)) [ inl same ↦ value-same true m k same.1 (sign-true m k same.1) | inr other ↦ value-other true m k refl other.1 ]

  pub valued-false : (clause : List ℤ) → All (λ l. 0 < variable l) clause → valued (with_true known m) false clause ≡ valued known false clause + times (neg_ℤ m) clause
  valued-false clause positive = count-plus (λ k. is_value false (literal (with_true known m) k)) (λ k. is_value false (literal known k)) (is_literal (neg_ℤ m)) clause (λ i d h. each (get_or clause i d) (positive i d h)) where
    each : (k : ℤ) → 0 < variable k → bit (is_value false (literal (with_true known m) k)) ≡ bit (is_value false (literal known k)) + bit (is_literal (neg_ℤ m) k)
    each k low = elim (eqb_tells (variable k) (variable m)) [ inl same ↦ value-same false (neg_ℤ m) k same.1 (sign-false m k same.1 low) | inr other ↦ value-other false (neg_ℤ m) k (variable-neg m) other.1 ]

-- What counts say of a clause.

pub left-count : (known : Known) (clause : List ℤ) → length (left known clause) + valued known false clause ≡ length clause
left-count known [] = refl
left-count known (l ∷ more) = by (left-count known more) (literal known l) refl where
  more-false : valued known false (l ∷ more) ≡ bit (is_value false (literal known l)) + valued known false more
  more-false = sum_by-cons (λ (k : ℤ). cond (is_value false (literal known k)) 1 0) l more

  by : length (left known more) + valued known false more ≡ length more → (o : Option Bool) → literal known l ≡ o → length (left known (l ∷ more)) + valued known false (l ∷ more) ≡ length (l ∷ more)
  by rest None e =
      let f : bit (is_value false (literal known l)) ≡ 0 = ap (λ (o : Option Bool). bit (is_value false o)) e in
      let kept : length (left known (l ∷ more)) ≡ suc (length (left known more)) = rw e refl in
      omega (arith, f, kept, more-false, rest)
  by rest (Some true) e =
      let f : bit (is_value false (literal known l)) ≡ 0 = ap (λ (o : Option Bool). bit (is_value false o)) e in
      let kept : length (left known (l ∷ more)) ≡ suc (length (left known more)) = rw e refl in
      omega (arith, f, kept, more-false, rest)
  by rest (Some false) e =
      let f : bit (is_value false (literal known l)) ≡ 1 = ap (λ (o : Option Bool). bit (is_value false o)) e in
      let gone : length (left known (l ∷ more)) ≡ length (left known more) = rw e refl in
      omega (arith, f, gone, more-false, rest)

-- what is left has the true literals
left-trues : (known : Known) (clause : List ℤ) → valued known true (left known clause) ≡ valued known true clause
left-trues known [] = refl
left-trues known (l ∷ more) = by (left-trues known more) (literal known l) refl where
  first : (rest : List ℤ) → valued known true (l ∷ rest) ≡ bit (is_value true (literal known l)) + valued known true rest
  first rest = sum_by-cons (λ (k : ℤ). cond (is_value true (literal known k)) 1 0) l rest

  by : valued known true (left known more) ≡ valued known true more → (o : Option Bool) → literal known l ≡ o → valued known true (left known (l ∷ more)) ≡ valued known true (l ∷ more)
  by same-rest None e =
      let kept : left known (l ∷ more) ≡ l ∷ left known more = rw e refl in
      let same : valued known true (left known (l ∷ more)) ≡ valued known true (l ∷ left known more) = ap (valued known true) kept in
      omega (arith, same, first more, first (left known more), same-rest)
  by same-rest (Some true) e =
      let kept : left known (l ∷ more) ≡ l ∷ left known more = rw e refl in
      let same : valued known true (left known (l ∷ more)) ≡ valued known true (l ∷ left known more) = ap (valued known true) kept in
      omega (arith, same, first more, first (left known more), same-rest)
  by same-rest (Some false) e =
      let gone : left known (l ∷ more) ≡ left known more = rw e refl in
      let same : valued known true (left known (l ∷ more)) ≡ valued known true (left known more) = ap (valued known true) gone in
      let none_ : bit (is_value true (literal known l)) ≡ 0 = ap (λ (o : Option Bool). bit (is_value true o)) e in
      omega (arith, same, first more, none_, same-rest)

-- with two literals that aren't false, or one that is true, a clause is quiet
pub quiet-by_counts : (known : Known) (clause : List ℤ) → ShowQuiet (length clause) (valued known false clause) (valued known true clause) → IsQuiet known clause
quiet-by_counts known clause (inl two) =
    record {
      not_false = λ e. let none_ : length (left known clause) ≡ 0 = ap (length {A = ℤ}) e in omega (arith, two, none_, left-count known clause);
      not_unit = λ l unit. let one : length (left known clause) ≡ 1 = ap (length {A = ℤ}) unit.alone in omega (arith, two, one, left-count known clause);
    }
quiet-by_counts known clause (inr some) =
    record {
      not_false = λ e. let none_ : valued known true (left known clause) ≡ 0 = ap (valued known true) e in omega (arith, some, none_, left-trues known clause);
      not_unit = λ l unit.
          let one : valued known true (left known clause) ≡ valued known true (l ∷ []) = ap (valued known true) unit.alone in
          let first : valued known true (l ∷ []) ≡ bit (is_value true (literal known l)) + valued known true [] = sum_by-cons (λ (k : ℤ). cond (is_value true (literal known k)) 1 0) l [] in
          let none_ : bit (is_value true (literal known l)) ≡ 0 = ap (λ (o : Option Bool). bit (is_value true o)) unit.open_ in
          omega (arith, some, one, first, none_, left-trues known clause);
    }

-- not more literals have a value than there are
pub valued-le : (known : Known) (b : Bool) (clause : List ℤ) → valued known b clause ≤ length clause
valued-le known b clause = count_by-le-length (λ k. is_value b (literal known k)) clause
