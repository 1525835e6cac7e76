-- Pairs of literals as guards, and why a clause with one is settled.
use Rattle.sat_solver.proofs.Common.{◌≡◌, ◌≢◌, zero, suc, ◌<◌, Bool, true, false, not, List, [], ◌∷◌, length, get_or, ℤ, pos, negsuc, neg_ℤ, Option, Some, None, option_map, refl, ap, sym, ◌∙◌, inl}
use Rattle.sat_solver.proofs.Common.{inr, ◌⊎◌, subst, arith, All, Contains, eqb_tells, get_or_default, All-head, All-tail, variable, Known, with_true, literal, is_some_false, left, IsQuiet, Pair}
use Rattle.sat_solver.proofs.Common.{place_of, IsSettled, AreDifferent, IsPair, IsOther, IsGuard, literal-same}
use Rattle.sat_solver.proofs.Walks.{with_true-other, with_true-same}
use Rattle.sat_solver.proofs.Settled.{IsBelow, literal-below}

-- Literals by the places of their lists.

pub place-same : (l m : ℤ) → place_of l ≡ place_of m → l ≡ m
place-same (pos n) (pos k) e = let same : n ≡ k = omega (arith, e) in ap pos same
place-same (pos n) (negsuc k) e = absurd (omega (arith, e))
place-same (negsuc n) (pos k) e = absurd (omega (arith, e))
place-same (negsuc n) (negsuc k) e = let same : n ≡ k = omega (arith, e) in ap negsuc same

pub place-tells : (l m : ℤ) → (l ≡ m) ⊎ (place_of l ≢ place_of m)
place-tells l m = elim (eqb_tells (place_of l) (place_of m)) [ inl same ↦ inl (place-same l m same.1) | inr other ↦ inr other.1 ]

pub literal-tells : (l m : ℤ) → (l ≡ m) ⊎ (l ≢ m)
literal-tells l m = elim (place-tells l m) [ inl same ↦ inl same | inr other ↦ inr (λ e. other (ap place_of e)) ]

-- no value is false and true
pub clash : {P : Type 0} (o : Option Bool) → o ≡ Some false → o ≡ Some true → P
clash o no_ yes_ = absurd (let wrong : true ≡ false = ap is_some_false (sym no_ ∙ yes_) in cc)

pub false-or : (o : Option Bool) → (o ≡ Some false) ⊎ (o ≢ Some false)
false-or None = inr (λ e. let wrong : None ≡ Some false = e in cc)
false-or (Some true) = inr (λ e. let wrong : false ≡ true = ap is_some_false e in cc)
false-or (Some false) = inl refl

pub option-or : {X : Type 0} (o : Option X) → (o ≡ None) ⊎ ((x : X) × (o ≡ Some x))
option-or None = inl refl
option-or (Some x) = inr (x, refl)

literal-made : (known : Known) (l : ℤ) → literal (with_true known l) l ≡ Some true
literal-made known (pos n) = with_true-same known (pos n)
literal-made known (negsuc n) = ap (option_map not) (with_true-same known (negsuc n))

same-or-neg : (l m : ℤ) → 0 < variable l → variable l ≡ variable m → (l ≡ m) ⊎ (l ≡ neg_ℤ m)
same-or-neg (pos n) (pos k) some e = inl (ap pos e)
same-or-neg (pos n) (negsuc k) some e = inr (ap pos e)
same-or-neg (negsuc n) (pos zero) some e = absurd (omega (arith, e))
same-or-neg (negsuc n) (pos (suc k)) some e = inr (let same : n ≡ k = omega (arith, e) in ap negsuc same)
same-or-neg (negsuc n) (negsuc k) some e = inl (let same : n ≡ k = omega (arith, e) in ap negsuc same)

-- the negation of a true literal is false, and no other literal becomes so
false-before : (before : Known) (m l : ℤ) → 0 < variable l → l ≢ neg_ℤ m → literal (with_true before m) l ≡ Some false → literal before l ≡ Some false
false-before before m l some apart e = elim (eqb_tells (variable l) (variable m)) [
  | inl same ↦ elim (same-or-neg l m some same.1) [
    | inl is ↦ clash (literal (with_true before m) l) e (ap (literal (with_true before m)) is ∙ literal-made before m)
    | inr is ↦ absurd (apart is)
  ]
  | inr other ↦ sym (literal-same (with_true before m) before l (with_true-other before m (variable l) other.1)) ∙ e
]

pub guard-next : (before now : Known) (m : ℤ) (pair : Pair) → 0 < variable pair.first → 0 < variable pair.second → pair.first ≢ neg_ℤ m → pair.second ≢ neg_ℤ m → IsGuard before now pair → IsGuard (with_true before m) now pair
guard-next before now m pair first second not_first not_second guard = record {
  first_false = λ e. guard.first_false (false-before before m pair.first first not_first e);
  second_false = λ e. guard.second_false (false-before before m pair.second second not_second e);
}

pub guard-more : (before now later : Known) (pair : Pair) → IsBelow now later → IsGuard before now pair → IsGuard before later pair
guard-more before now later pair below guard = record {
  first_false = λ e. literal-below now later below pair.second true (guard.first_false e);
  second_false = λ e. literal-below now later below pair.first true (guard.second_false e);
}

pub guard-less : (fewer before now : Known) (pair : Pair) → IsBelow fewer before → IsGuard before now pair → IsGuard fewer now pair
guard-less fewer before now pair below guard = record {
  first_false = λ e. guard.first_false (literal-below fewer before below pair.first false e);
  second_false = λ e. guard.second_false (literal-below fewer before below pair.second false e);
}

-- where the other literal is true
pub guard-true : (before now : Known) (pair : Pair) (l other : ℤ) → IsBelow before now → IsOther pair l other → literal now other ≡ Some true → IsGuard before now pair
guard-true before now pair l other below (inl is) true_ =
    let here : literal now pair.second ≡ Some true = ap (literal now) is.1 ∙ true_ in
    record {
      first_false = λ e. here;
      second_false = λ e. clash (literal now pair.second) (literal-below before now below pair.second false e) here;
    }
guard-true before now pair l other below (inr is) true_ =
    let here : literal now pair.first ≡ Some true = ap (literal now) is.1 ∙ true_ in
    record {
      first_false = λ e. clash (literal now pair.first) (literal-below before now below pair.first false e) here;
      second_false = λ e. here;
    }

other-true : (before now : Known) (pair : Pair) (l other : ℤ) → IsGuard before now pair → IsOther pair l other → literal before other ≡ Some false → literal now l ≡ Some true
other-true before now pair l other guard (inl is) e = sym (ap (literal now) is.0) ∙ guard.second_false (ap (literal before) is.1 ∙ e)
other-true before now pair l other guard (inr is) e = sym (ap (literal now) is.0) ∙ guard.first_false (ap (literal before) is.1 ∙ e)

-- in place of a literal that has become false a clause is watched at another one that isn't false
pub guard-moved : (before now : Known) (m : ℤ) (pair : Pair) (other next : ℤ) → IsGuard before now pair → IsOther pair (neg_ℤ m) other → literal now (neg_ℤ m) ≡ Some false → 0 < variable other → other ≢ neg_ℤ m → literal now next ≢ Some false → IsBelow (with_true before m) now → IsGuard (with_true before m) now (record { first = other; second = next })
guard-moved before now m pair other next guard is false_ some apart open_ below = record {
  first_false = λ e. clash (literal now (neg_ℤ m)) false_ (other-true before now pair (neg_ℤ m) other guard is (false-before before m other some apart e));
  second_false = λ e. absurd (open_ (literal-below (with_true before m) now below next false e));
}

pub guard-kept : (before then_ now : Known) (pair : Pair) (l other next : ℤ) → IsGuard before then_ pair → IsOther pair l other → literal now l ≡ Some false → literal now next ≢ Some false → IsBelow before now → IsBelow then_ now → IsGuard before then_ (record { first = other; second = next })
guard-kept before then_ now pair l other next guard is false_ open_ below after = record {
  first_false = λ e. clash (literal now l) false_ (literal-below then_ now after l true (other-true before then_ pair l other guard is e));
  second_false = λ e. absurd (open_ (literal-below before now below next false e));
}

-- What is left of a clause.

not-false : (known : Known) (l : ℤ) → literal known l ≢ Some false → is_some_false (literal known l) ≡ false
not-false known l h = by (literal known l) h where
  by : (o : Option Bool) → o ≢ Some false → is_some_false o ≡ false
  by None h = refl
  by (Some true) h = refl
  by (Some false) h = absurd (h refl)

left-has : (known : Known) (clause : List ℤ) (l : ℤ) → Contains clause l → literal known l ≢ Some false → Contains (left known clause) l
left-has known [] l (k, within, e) open_ = absurd (omega (arith, within))
left-has known (x ∷ xs) l (zero, within, e) open_ =
    let test : is_some_false (literal known x) ≡ false = ap (λ (y : ℤ). is_some_false (literal known y)) e ∙ not-false known l open_ in
    let kept : left known (x ∷ xs) ≡ x ∷ left known xs = rw test refl in
    let P : List ℤ → Type 0 = λ ys. Contains ys l in
    subst P (sym kept) (0, omega arith, e)
left-has known (x ∷ xs) l (suc k, within, e) open_ = by (is_some_false (literal known x)) refl (left-has known xs l (k, omega (arith, within), e) open_) where
  by : (b : Bool) → is_some_false (literal known x) ≡ b → Contains (left known xs) l → Contains (left known (x ∷ xs)) l
  by true w has = let gone : left known (x ∷ xs) ≡ left known xs = rw w refl in let P : List ℤ → Type 0 = λ ys. Contains ys l in subst P (sym gone) has
  by false w has =
      let kept : left known (x ∷ xs) ≡ x ∷ left known xs = rw w refl in
      let P : List ℤ → Type 0 = λ ys. Contains ys l in
      subst P (sym kept) (suc has.0, omega (arith, has.1), has.2)

no-one : {P : Type 0} (l : ℤ) (xs : List ℤ) → xs ≡ [] → Contains xs l → P
no-one l xs e has = absurd (let none_ : length xs ≡ 0 = ap (length {A = ℤ}) e in omega (arith, has.1, none_))

the-one : (l x : ℤ) (xs : List ℤ) → xs ≡ l ∷ [] → Contains xs x → x ≡ l
the-one l x xs e has = let P : List ℤ → Type 0 = λ ys. Contains ys x in by (subst P e has) where
  by : Contains (l ∷ []) x → x ≡ l
  by (zero, h, w) = sym w
  by (suc k, h, w) = absurd (omega (arith, h))

-- a clause with a guard is settled
pub guard-settled : (before now : Known) (clause : List ℤ) (pair : Pair) → IsBelow before now → IsPair clause pair → IsGuard before now pair → IsSettled before now clause
guard-settled before now clause pair below of_ guard =
    let not_both : literal before pair.first ≡ Some false → literal before pair.second ≢ Some false = λ first second. clash (literal now pair.second) (literal-below before now below pair.second false second) (guard.first_false first) in
    let has_first : literal before pair.first ≢ Some false → Contains (left before clause) pair.first = left-has before clause pair.first of_.first_in in
    let has_second : literal before pair.second ≢ Some false → Contains (left before clause) pair.second = left-has before clause pair.second of_.second_in in
    let P : ℤ → Type 0 = λ x. literal now x ≡ Some true in
    record {
      not_false = λ e. elim (false-or (literal before pair.first)) [
        | inl first ↦ no-one pair.second (left before clause) e (has_second (not_both first))
        | inr open_ ↦ no-one pair.first (left before clause) e (has_first open_)
      ];
      made_true = λ l unit. elim (false-or (literal before pair.first)) [
        | inl first ↦ subst P (the-one l pair.second (left before clause) unit.alone (has_second (not_both first))) (guard.first_false first)
        | inr open_ ↦ elim (false-or (literal before pair.second)) [
          | inl second ↦ subst P (the-one l pair.first (left before clause) unit.alone (has_first open_)) (guard.second_false second)
          | inr also ↦ absurd (of_.apart (the-one l pair.first (left before clause) unit.alone (has_first open_) ∙ sym (the-one l pair.second (left before clause) unit.alone (has_second also))))
        ]
      ];
    }

-- Where all literals but one are false in a quiet clause, that one is true.

left-none : (known : Known) (xs : List ℤ) → All (λ l. literal known l ≡ Some false) xs → left known xs ≡ []
left-none known [] all = refl
left-none known (x ∷ xs) all =
    let P : ℤ → Type 0 = λ l. literal known l ≡ Some false in
    rw (All-head P x xs all) (left-none known xs (All-tail P x xs all))

different-tail : (x : ℤ) (xs : List ℤ) → AreDifferent (x ∷ xs) → AreDifferent xs
different-tail x xs different i j less h = different (suc i) (suc j) (omega (arith, less)) (omega (arith, h))

left-one : (known : Known) (xs : List ℤ) (other : ℤ) → AreDifferent xs → Contains xs other → All (λ l. l ≢ other → literal known l ≡ Some false) xs → literal known other ≡ None → left known xs ≡ other ∷ []
left-one known [] other different (k, within, e) all open_ = absurd (omega (arith, within))
left-one known (x ∷ xs) other different (zero, within, e) all open_ =
    let P : ℤ → Type 0 = λ l. l ≢ other → literal known l ≡ Some false in
    let here : literal known x ≡ None = ap (literal known) e ∙ open_ in
    let rest : left known xs ≡ [] = left-none known xs (λ k d h. All-tail P x xs all k d h (λ same. different 0 (suc k) (omega arith) (omega (arith, h)) (e ∙ sym same ∙ get_or_default xs k d (pos 0) h))) in
    let kept : left known (x ∷ xs) ≡ x ∷ left known xs = rw here refl in
    kept ∙ ap (λ (ys : List ℤ). x ∷ ys) rest ∙ ap (λ (y : ℤ). y ∷ []) e
left-one known (x ∷ xs) other different (suc k, within, e) all open_ =
    let P : ℤ → Type 0 = λ l. l ≢ other → literal known l ≡ Some false in
    let apart : x ≢ other = λ same. different 0 (suc k) (omega arith) within (same ∙ sym e ∙ get_or_default xs k other (pos 0) (omega (arith, within))) in
    let here : literal known x ≡ Some false = All-head P x xs all apart in
    let gone : left known (x ∷ xs) ≡ left known xs = rw here refl in
    gone ∙ left-one known xs other (different-tail x xs different) (k, omega (arith, within), e) (All-tail P x xs all) open_

pub last-true : (now : Known) (clause : List ℤ) (other : ℤ) → AreDifferent clause → Contains clause other → All (λ l. l ≢ other → literal now l ≡ Some false) clause → IsQuiet now clause → literal now other ≡ Some true
last-true now clause other different has all quiet = by (literal now other) refl where
  by : (o : Option Bool) → literal now other ≡ o → literal now other ≡ Some true
  by (Some true) e = e
  by None e = absurd (quiet.not_unit other (record { alone = left-one now clause other different has all e; open_ = e }))
  by (Some false) e = absurd (quiet.not_false (left-none now clause (λ k d h. each (get_or clause k d) (all k d h)))) where
    each : (l : ℤ) → (l ≢ other → literal now l ≡ Some false) → literal now l ≡ Some false
    each l f = elim (literal-tells l other) [
      | inl same ↦ ap (literal now) same ∙ e
      | inr apart ↦ f apart
    ]
