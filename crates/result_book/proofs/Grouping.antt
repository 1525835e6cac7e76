-- The answers and bounds of each mutation, and one more row.
use Rattle.result_book.proofs.Common.{◌≡◌, ◌≢◌, inl, inr, ℕ, ◌<◌, true, false, List, [], ◌∷◌, ◌++◌, length, set, replicate, Option, Some, refl, sym, ◌∙◌, ap, unwrap_or, eqb_tells, Entry, Answer}
use Rattle.result_book.proofs.Common.{each_from, IsPair, answer_of, answers_of, bound_in, bounds_on, is_pair}
use Rattle.result_book.proofs.Each.{each_from-same, each_set, length-each_from}

-- One more row is one more answer of its mutation, and of no other.
pub answers_of-same : (m : ℕ) (rows : List Entry) (e : Entry) → e.mutation ≡ m → answers_of m (rows ++ e ∷ []) ≡ answers_of m rows ++ answer_of e ∷ []
answers_of-same m [] e is = elim (eqb_tells e.mutation m) [ inl h ↦ rw h.0 refl | inr h ↦ absurd (h.1 is) ]
answers_of-same m (r ∷ rows) e is = elim (eqb_tells r.mutation m) [
  | inl h ↦ rw h.0 (ap (λ (t : List Answer). answer_of r ∷ t) (answers_of-same m rows e is))
  | inr h ↦ rw h.0 (answers_of-same m rows e is)
]

pub answers_of-other : (m : ℕ) (rows : List Entry) (e : Entry) → e.mutation ≢ m → answers_of m (rows ++ e ∷ []) ≡ answers_of m rows
answers_of-other m [] e other = elim (eqb_tells e.mutation m) [ inl h ↦ absurd (other h.1) | inr h ↦ rw h.0 refl ]
answers_of-other m (r ∷ rows) e other = elim (eqb_tells r.mutation m) [
  | inl h ↦ rw h.0 (ap (λ (t : List Answer). answer_of r ∷ t) (answers_of-other m rows e other))
  | inr h ↦ rw h.0 (answers_of-other m rows e other)
]

-- whether a row is of a pair
pub pair_yes : (m t : ℕ) (e : Entry) → IsPair m t e → is_pair m t e ≡ true
pair_yes m t e pair = elim (eqb_tells e.mutation m) [
  | inl h ↦ (elim (eqb_tells e.test t) [ inl g ↦ rw (h.0, g.0) refl | inr g ↦ absurd (g.1 pair.1) ])
  | inr h ↦ absurd (h.1 pair.0)
]

pub pair_no : (m t : ℕ) (e : Entry) → ¬ IsPair m t e → is_pair m t e ≡ false
pair_no m t e other = elim (eqb_tells e.mutation m) [
  | inl h ↦ (elim (eqb_tells e.test t) [ inl g ↦ absurd (other (h.1, g.1)) | inr g ↦ rw (h.0, g.0) refl ])
  | inr h ↦ rw h.0 refl
]

-- the bound of a pair's last row counts
pub bound_in-same : (m t : ℕ) (rows : List Entry) (e : Entry) → is_pair m t e ≡ true → bound_in m t (rows ++ e ∷ []) ≡ Some e.bound
bound_in-same m t [] e is = rw is refl
bound_in-same m t (r ∷ rows) e is = rw (bound_in-same m t rows e is) refl

pub bound_in-other : (m t : ℕ) (rows : List Entry) (e : Entry) → is_pair m t e ≡ false → bound_in m t (rows ++ e ∷ []) ≡ bound_in m t rows
bound_in-other m t [] e is = rw is refl
bound_in-other m t (r ∷ rows) e is = rw (bound_in-other m t rows e is) refl

-- the bounds of its mutation have one more, and those of others are the same
pub bounds_on-more : (rows : List Entry) (e : Entry) → e.test < 16 → bounds_on e.mutation (rows ++ e ∷ []) ≡ set (bounds_on e.mutation rows) e.test e.bound
unfolding bounds_on
bounds_on-more rows e inside =
    let m : ℕ = e.mutation in
    let before : ℕ → ℕ = λ t. unwrap_or (bound_in m t rows) 0 in
    let after : ℕ → ℕ = λ t. unwrap_or (bound_in m t (rows ++ e ∷ [])) 0 in
    each_set before after 16 e.test inside (λ t other. ap (λ (o : Option ℕ). unwrap_or o 0) (bound_in-other m t rows e (pair_no m t e (λ pair. other (sym pair.1)))))
    ∙ ap (set (each_from before 0 16) e.test) (ap (λ (o : Option ℕ). unwrap_or o 0) (bound_in-same m e.test rows e (pair_yes m e.test e (refl, refl))))

pub bounds_on-other : (m : ℕ) (rows : List Entry) (e : Entry) → e.mutation ≢ m → bounds_on m (rows ++ e ∷ []) ≡ bounds_on m rows
unfolding bounds_on
bounds_on-other m rows e other =
    each_from-same (λ t. unwrap_or (bound_in m t rows) 0) (λ t. unwrap_or (bound_in m t (rows ++ e ∷ [])) 0) 0 16
    (λ t above. ap (λ (o : Option ℕ). unwrap_or o 0) (bound_in-other m t rows e (pair_no m t e (λ pair. other pair.0))))

pub bounds_on-none : (m : ℕ) → bounds_on m [] ≡ replicate 16 0
unfolding bounds_on
bounds_on-none m = refl

pub length-bounds_on : (m : ℕ) (rows : List Entry) → length (bounds_on m rows) ≡ 16
unfolding bounds_on
length-bounds_on m rows = length-each_from (λ t. unwrap_or (bound_in m t rows) 0) 0 16

-- what is made of the answers of each mutation, with one more row
pub each_more : {X : Type 0} (of : ℕ → List Entry → X) → ((m : ℕ) (rows : List Entry) (e : Entry) → e.mutation ≢ m → of m (rows ++ e ∷ []) ≡ of m rows) → (n : ℕ) (rows : List Entry) (e : Entry) → e.mutation < n
    → each_from (λ m. of m (rows ++ e ∷ [])) 0 n ≡ set (each_from (λ m. of m rows) 0 n) e.mutation (of e.mutation (rows ++ e ∷ []))
each_more of others n rows e inside = each_set (λ m. of m rows) (λ m. of m (rows ++ e ∷ [])) n e.mutation inside (λ m other. others m rows e (λ same. other (sym same)))
