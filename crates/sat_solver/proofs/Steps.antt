-- The steps of the walk that makes a lemma.
use Rattle.sat_solver.proofs.Common.{◌≡◌, ◌≢◌, ℕ, zero, suc, ◌+◌, ◌-◌, ◌<◌, ◌≤◌, Bool, true, false, not, ◌||◌, List, [], ◌∷◌, ◌++◌, length, take, drop, get_or, reverse, ℤ, pos, negsuc, neg_ℤ, Some}
use Rattle.sat_solver.proofs.Common.{None, refl, ap, sym, ◌∙◌, inl, inr, ◌⊎◌, nat_eq, if◌then◌else◌, arith, All, eqb_tells, leb_tells, length_push, length-reverse, All-nil, All-push, variable, Known}
use Rattle.sat_solver.proofs.Common.{is_positive, is_some_false, IsUnit, IsFalsified, clause_at, is_named, IsFalse, free-push, assigned, literal_at, AreApart, IsReason, is_needed, last_start}
use Rattle.sat_solver.proofs.Common.{NoneNeeded, IsWalked, IsLearned}
use Rattle.std.proofs.Common.{slice_get}
use Rattle.sat_solver.proofs.Walks.{assigned-at, open-before}
use Rattle.sat_solver.proofs.Needs.{derive-skip, derive-stop, derive-expand, derive-start, derive-end, unnamed-push, assigned-whole, places-differ, literal-from}
use Rattle.sat_solver.proofs.Listed.{variable-neg}

-- a clause names its literals' variables
pub named-itself : (clause : List ℤ) (k : ℕ) (d : ℤ) → k < length clause → is_named clause (variable (get_or clause k d)) ≡ true
named-itself [] k d h = absurd (omega (arith, h))
named-itself (x ∷ xs) zero d h = elim (eqb_tells (variable x) (variable x)) [ inl same ↦ rw same.0 refl | inr other ↦ absurd (other.1 refl) ]
named-itself (x ∷ xs) (suc k) d h = rw (named-itself xs k d (omega (arith, h))) (or-true (nat_eq (variable (get_or xs k d)) (variable x))) where
  or-true : (b : Bool) → (b || true) ≡ true
  or-true true = refl
  or-true false = refl

pub needed-clause : (old new : List Bool) (clause : List ℤ) → ((v : ℕ) → is_needed new v ≡ (is_needed old v || is_named clause v)) → All (λ m. is_needed new (variable m) ≡ true) clause
needed-clause old new clause marks k d h = marks (variable (get_or clause k d)) ∙ rw (named-itself clause k d h) (or-true (is_needed old (variable (get_or clause k d)))) where
  or-true : (b : Bool) → (b || true) ≡ true
  or-true true = refl
  or-true false = refl

pub needed-grows : (old new : List Bool) (clause : List ℤ) → ((v : ℕ) → is_needed new v ≡ (is_needed old v || is_named clause v)) → (v : ℕ) → is_needed old v ≡ true → is_needed new v ≡ true
needed-grows old new clause marks v h = marks v ∙ rw h refl

pub positive-neg : (l : ℤ) → 0 < variable l → is_positive (neg_ℤ l) ≡ not (is_positive l)
positive-neg (pos zero) h = absurd (omega (arith, h))
positive-neg (pos (suc n)) h = refl
positive-neg (negsuc n) h = refl

-- the negation of a true literal is false
pub neg-false : (known : Known) (l : ℤ) → 0 < variable l → known (variable l) ≡ Some (is_positive l) → IsFalse known (neg_ℤ l)
neg-false known l h is =
    let value : known (variable (neg_ℤ l)) ≡ Some (is_positive l) = ap known (variable-neg l) ∙ is in
    ap is_some_false (literal-from known (neg_ℤ l) (is_positive l) value) ∙ rw (positive-neg l h) (opposite (is_positive l)) where
      opposite : (a : Bool) → is_some_false (Some (if not a then a else not a)) ≡ true
      opposite true = refl
      opposite false = refl

pub walked-init : (clauses : List (List ℤ)) (free : ℕ) (literals : List ℤ) (starts : List ℕ) (old needed : List Bool) (conflict : ℕ) (clause : List ℤ) → clause_at clauses conflict ≡ Some clause → IsFalsified (assigned literals) clause → ((v : ℕ) → is_needed needed v ≡ (is_needed old v || is_named clause v)) → IsWalked clauses free literals starts needed [] (conflict ∷ []) 0 (length literals)
walked-init clauses free literals starts old needed conflict clause at falsified marks = record {
  derive = derive-start clauses literals needed conflict clause at falsified (needed-clause old needed clause marks);
  left_ = record { over_free = tt; all_false = All-nil (IsFalse (assigned literals)); later = λ q h. refl };
  few = omega arith;
  below = All-nil (IsFalse (assigned (take (last_start starts) literals)));
  one_last = λ h. absurd (omega (arith, h));
  levels = λ h. refl;
  first_open = λ n h. absurd (omega (arith, h));
  kept = λ j h. absurd (omega (arith, h));
  back_within = omega arith;
}

pub walked-skip : (clauses : List (List ℤ)) (free : ℕ) (literals : List ℤ) (starts : List ℕ) (needed : List Bool) (lemma : List ℤ) (used : List ℕ) (back q : ℕ) → is_needed needed (variable (literal_at literals q)) ≡ false → IsWalked clauses free literals starts needed lemma used back (q + 1) → IsWalked clauses free literals starts needed lemma used back q
walked-skip clauses free literals starts needed lemma used back q skip walked = record {
  derive = derive-skip clauses literals needed lemma q used skip walked.derive;
  left_ = record { over_free = walked.left_.over_free; all_false = walked.left_.all_false; later = λ r h. walked.left_.later r (omega (arith, h)) };
  few = omega (arith, walked.few);
  below = walked.below;
  one_last = λ h r k m. walked.one_last h r k (omega (arith, m));
  levels = walked.levels;
  first_open = λ n h k. walked.first_open n h (omega (arith, k));
  kept = walked.kept;
  back_within = walked.back_within;
}

pub walked-expand : (clauses : List (List ℤ)) (limit free : ℕ) (literals : List ℤ) (starts : List ℕ) (needed more : List Bool) (lemma : List ℤ) (used : List ℕ) (back q reason : ℕ) (clause : List ℤ) → AreApart limit literals → q < length literals → is_needed needed (variable (literal_at literals q)) ≡ true → clause_at clauses reason ≡ Some clause → IsUnit (assigned (take q literals)) clause (literal_at literals q) → ((v : ℕ) → is_needed more v ≡ (is_needed needed v || is_named clause v)) → IsWalked clauses free literals starts needed lemma used back (q + 1) → IsWalked clauses free literals starts more lemma (used ++ reason ∷ []) back q
walked-expand clauses limit free literals starts needed more lemma used back q reason clause apart h need at unit marks walked = record {
  derive = derive-expand clauses limit literals needed more lemma q reason clause used apart h at unit (needed-grows needed more clause marks) (needed-clause needed more clause marks) (walked.left_.later q (omega arith)) walked.derive;
  left_ = record { over_free = walked.left_.over_free; all_false = walked.left_.all_false; later = λ r k. walked.left_.later r (omega (arith, k)) };
  few = let more_ : length (used ++ reason ∷ []) ≡ length used + 1 = length_push used reason in omega (arith, walked.few, more_);
  below = walked.below;
  one_last = λ some r k m. absurd (let wrong : true ≡ false = sym need ∙ walked.one_last some q (omega (arith, k, m)) (omega arith) in cc);
  levels = walked.levels;
  first_open = λ n some k. walked.first_open n some (omega (arith, k));
  kept = walked.kept;
  back_within = walked.back_within;
}

-- where a lemma has a literal already, one more is of a lower level
lower : (literals : List ℤ) (starts : List ℕ) (needed : List Bool) (q : ℕ) → is_needed needed (variable (literal_at literals q)) ≡ true → NoneNeeded literals needed (last_start starts) (q + 1) → q < last_start starts
lower literals starts needed q need none_ = elim (leb_tells (last_start starts) q) [
  | inl there ↦ absurd (let wrong : true ≡ false = sym need ∙ none_ q there.1 (omega arith) in cc)
  | inr below ↦ below.1
]

pub walked-stop : (clauses : List (List ℤ)) (limit free : ℕ) (literals : List ℤ) (starts : List ℕ) (needed : List Bool) (lemma : List ℤ) (used : List ℕ) (back next q : ℕ) → AreApart limit literals → q < length literals → last_start starts ≤ length literals → is_needed needed (variable (literal_at literals q)) ≡ true → 0 < variable (literal_at literals q) → variable (literal_at literals q) ≤ free → 0 < length starts → NoneNeeded literals needed (last_start starts) q → (length lemma ≡ 1 → ((j : ℕ) → j < next → get_or starts j 0 ≤ q) × (next ≤ length starts)) → (length lemma ≢ 1 → next ≡ back) → IsWalked clauses free literals starts needed lemma used back (q + 1) → IsWalked clauses free literals starts needed (lemma ++ neg_ℤ (literal_at literals q) ∷ []) used next q
walked-stop clauses limit free literals starts needed lemma used back next q apart h last_within need low high some_level none_ second same walked =
    let m : ℤ = literal_at literals q in
    let l : ℤ = neg_ℤ m in
    let named : variable l ≡ variable m = variable-neg m in
    let new : is_named lemma (variable l) ≡ false = rw named (walked.left_.later q (omega arith)) in
    let value : (n : ℕ) → q < n → n ≤ length literals → IsFalse (assigned (take n literals)) l = λ n k within. neg-false (assigned (take n literals)) m low (assigned-at limit literals q n apart k within) in
    let opens : (n : ℕ) → n ≤ q → assigned (take n literals) (variable l) ≡ None = λ n k. rw named (open-before limit literals q n apart k h) in
    record {
      derive = derive-stop clauses limit literals needed lemma q l used apart h (sym named) walked.derive;
      left_ = record {
        over_free = free-push free lemma l walked.left_.over_free (rw named low) (rw named high) new;
        all_false = All-push (IsFalse (assigned literals)) lemma l walked.left_.all_false (neg-false (assigned literals) m low (assigned-whole limit literals q apart h));
        later = λ r k. unnamed-push lemma l (variable (literal_at literals r)) (λ e. places-differ limit literals r q apart (omega (arith, k, h)) h (omega (arith, k)) (e ∙ named)) (walked.left_.later r (omega (arith, k)));
      };
      few = omega (arith, walked.few);
      below = below_push lemma walked.below (λ some. value (last_start starts) (lower literals starts needed q need (walked.one_last some)) last_within);
      one_last = λ some. none_;
      levels = λ zero_. absurd (omega (arith, zero_, some_level));
      first_open = λ n some k. first_push n lemma (λ has. walked.first_open n has (omega (arith, k))) (opens n k);
      kept = λ j k. kept_push lemma j k second same walked.first_open walked.kept opens;
      back_within = within_push (eqb_tells (length lemma) 1) second same walked.back_within;
    } where
      below_push : (xs : List ℤ) → All (IsFalse (assigned (take (last_start starts) literals))) (drop 1 xs) → (0 < length xs → IsFalse (assigned (take (last_start starts) literals)) (neg_ℤ (literal_at literals q))) → All (IsFalse (assigned (take (last_start starts) literals))) (drop 1 (xs ++ neg_ℤ (literal_at literals q) ∷ []))
      below_push [] all is = All-nil (IsFalse (assigned (take (last_start starts) literals)))
      below_push (x ∷ xs) all is = All-push (IsFalse (assigned (take (last_start starts) literals))) xs (neg_ℤ (literal_at literals q)) all (is (omega arith))

      first_push : (n : ℕ) (xs : List ℤ) → (0 < length xs → assigned (take n literals) (variable (literal_at xs 0)) ≡ None) → assigned (take n literals) (variable (neg_ℤ (literal_at literals q))) ≡ None → assigned (take n literals) (variable (literal_at (xs ++ neg_ℤ (literal_at literals q) ∷ []) 0)) ≡ None
      first_push n [] has is = is
      first_push n (x ∷ xs) has is = has (omega arith)

      within_push : ((Rattle.std.specs.Prelude.nat_eq (length lemma) 1 ≡ true) × (length lemma ≡ 1)) ⊎ ((Rattle.std.specs.Prelude.nat_eq (length lemma) 1 ≡ false) × (length lemma ≢ 1)) → (length lemma ≡ 1 → ((j : ℕ) → j < next → get_or starts j 0 ≤ q) × (next ≤ length starts)) → (length lemma ≢ 1 → next ≡ back) → back ≤ length starts → next ≤ length starts
      within_push (inl is) second same within = (second is.1).1
      within_push (inr other) second same within = omega (arith, same other.1, within)

      kept_push : (xs : List ℤ) (j : ℕ) → j < next → (length xs ≡ 1 → ((i : ℕ) → i < next → get_or starts i 0 ≤ q) × (next ≤ length starts)) → (length xs ≢ 1 → next ≡ back) → ((n : ℕ) → 0 < length xs → n ≤ q + 1 → assigned (take n literals) (variable (literal_at xs 0)) ≡ None) → ((i : ℕ) → i < back → (1 < length xs) × (assigned (take (get_or starts i 0) literals) (variable (literal_at xs 0)) ≡ None) × (assigned (take (get_or starts i 0) literals) (variable (literal_at xs 1)) ≡ None)) → ((n : ℕ) → n ≤ q → assigned (take n literals) (variable (neg_ℤ (literal_at literals q))) ≡ None) → (1 < length (xs ++ neg_ℤ (literal_at literals q) ∷ [])) × (assigned (take (get_or starts j 0) literals) (variable (literal_at (xs ++ neg_ℤ (literal_at literals q) ∷ []) 0)) ≡ None) × (assigned (take (get_or starts j 0) literals) (variable (literal_at (xs ++ neg_ℤ (literal_at literals q) ∷ []) 1)) ≡ None)
      kept_push [] j k second same first kept opens = absurd (let e : next ≡ back = same (λ f. omega (arith, f)) in let no_two : 1 < 0 = (kept j (omega (arith, k, e))).0 in omega (arith, no_two))
      kept_push (x ∷ []) j k second same first kept opens =
          let at : get_or starts j 0 ≤ q = (second refl).0 j k in
          (omega arith, first (get_or starts j 0) (omega arith) (omega (arith, at)), opens (get_or starts j 0) at)
      kept_push (x ∷ y ∷ xs) j k second same first kept opens =
          let e : next ≡ back = same (λ f. omega (arith, f)) in
          let old = kept j (omega (arith, k, e)) in
          (omega arith, old.1, old.2)

pub walked-end : (clauses : List (List ℤ)) (free : ℕ) (literals : List ℤ) (starts : List ℕ) (needed : List Bool) (lemma : List ℤ) (used : List ℕ) (back : ℕ) → IsWalked clauses free literals starts needed lemma used back 0 → IsLearned clauses free literals starts lemma (reverse used) back
walked-end clauses free literals starts needed lemma used back walked = record {
  over_free = walked.left_.over_free;
  follows = derive-end clauses literals needed lemma used walked.left_.all_false walked.derive;
  few = let same : length (reverse used) ≡ length used = length-reverse used in omega (arith, walked.few, same);
  all_false = walked.left_.all_false;
  below = walked.below;
  levels = walked.levels;
  kept = walked.kept;
  back_within = walked.back_within;
}

-- the clause that was read is the one with the number
pub clause-read : (clauses : List (List ℤ)) (hint : ℕ) (a b : List ℤ) → clause_at clauses hint ≡ Some a → slice_get clauses (hint - 1) ≡ Some b → a ≡ b
clause-read clauses zero a b at read = absurd (let wrong : None ≡ Some a = at in cc)
clause-read clauses (suc k) a b at read = let e : suc k - 1 ≡ k = omega arith in let f : Some a ≡ Some b = sym at ∙ rw e at read in cc

-- the clause that is a literal's reason
pub reason-clause : (clauses : List (List ℤ)) (free : ℕ) (starts : List ℕ) (literals : List ℤ) (p reason : ℕ) → reason ≢ 0 → IsReason clauses free starts literals p reason → (clause : List ℤ) × (clause_at clauses reason ≡ Some clause) × IsUnit (assigned (take p literals)) clause (literal_at literals p)
reason-clause clauses free starts literals p zero h is = absurd (h refl)
reason-clause clauses free starts literals p (suc k) h is = is
