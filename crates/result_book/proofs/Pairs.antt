-- Whether a pair of mutation and test has a row, and what its last row says.
use Rattle.result_book.proofs.Common.{◌≡◌, inl, inr, arith, ℕ, suc, Bool, true, ◌==◌, List, [], ◌∷◌, Option, None, Some, refl, sym, ◌∙◌, ap, subst, if◌then◌else◌, option_or, All, Any, eqb_tells}
use Rattle.result_book.proofs.Common.{All-nil, All-cons, Entry, word_in, answer_of, answers_of, IsPair, bound_in, is_pair}
use Rattle.result_book.proofs.Grouping.{pair_no, pair_yes}

pub none_or : {X : Type 0} (a b : Option X) → option_or a b ≡ None → (a ≡ None) × (b ≡ None)
none_or None b none = (refl, none)
none_or (Some x) b none = absurd (let never : Some x ≡ None = none in cc)

or_none : {X : Type 0} (o : Option X) → option_or o None ≡ o
or_none None = refl
or_none (Some x) = refl

-- a pair without a word has no row
pub new_pair : (m t : ℕ) (rows : List Entry) → word_in (answers_of m rows) t ≡ None → All (λ row. ¬ IsPair m t row) rows
new_pair m t [] none = All-nil (λ row. ¬ IsPair m t row)
new_pair m t (r ∷ rows) none = elim (eqb_tells r.mutation m) [
  | inl h ↦ (let here : word_in (answer_of r ∷ answers_of m rows) t ≡ None = rw h.0 at none in
      let both = none_or (word_in (answers_of m rows) t) (if r.test == t then Some r.word else None) here in
      elim (eqb_tells r.test t) [
        | inl g ↦ absurd (let some : Some r.word ≡ None = rw g.0 at both.1 in cc)
        | inr g ↦ All-cons (λ row. ¬ IsPair m t row) r rows (λ pair. g.1 pair.1) (new_pair m t rows both.0)
      ])
  | inr h ↦ All-cons (λ row. ¬ IsPair m t row) r rows (λ pair. h.1 pair.0) (new_pair m t rows (rw h.0 at none))
]

Any-here : (m t : ℕ) (r : Entry) (rows : List Entry) → IsPair m t r → Any (IsPair m t) (r ∷ rows)
Any-here m t r rows pair = (0, r, omega arith, refl, pair)

Any-there : (m t : ℕ) (r : Entry) (rows : List Entry) → Any (IsPair m t) rows → Any (IsPair m t) (r ∷ rows)
Any-there m t r rows h = (suc h.0, h.1, omega (arith, h.2), h.3, h.4)

-- one with a word has a row
pub old_pair : (m t word : ℕ) (rows : List Entry) → word_in (answers_of m rows) t ≡ Some word → Any (IsPair m t) rows
old_pair m t word [] some = cc
old_pair m t word (r ∷ rows) some = elim (eqb_tells r.mutation m) [
  | inl h ↦ (elim (eqb_tells r.test t) [
    | inl g ↦ Any-here m t r rows (h.1, g.1)
    | inr g ↦ (let here : option_or (word_in (answers_of m rows) t) None ≡ Some word = rw (h.0, g.0) at some in Any-there m t r rows (old_pair m t word rows (sym (or_none (word_in (answers_of m rows) t)) ∙ here)))
  ])
  | inr h ↦ Any-there m t r rows (old_pair m t word rows (rw h.0 at some))
]

pub not_both : (m t : ℕ) (rows : List Entry) → All (λ row. ¬ IsPair m t row) rows → Any (IsPair m t) rows → ⊥
not_both m t rows none some = none some.0 some.1 some.2 (subst (IsPair m t) (sym some.3) some.4)

-- a pair has a bound exactly where it has a word
pub bound_there : (m t : ℕ) (rows : List Entry) → (word_in (answers_of m rows) t ≡ None) → bound_in m t rows ≡ None
bound_there m t [] none = refl
bound_there m t (r ∷ rows) none = elim (eqb_tells r.mutation m) [
  | inl h ↦ (let here : word_in (answer_of r ∷ answers_of m rows) t ≡ None = rw h.0 at none in
      let both = none_or (word_in (answers_of m rows) t) (if r.test == t then Some r.word else None) here in
      elim (eqb_tells r.test t) [
        | inl g ↦ absurd (let some : Some r.word ≡ None = rw g.0 at both.1 in cc)
        | inr g ↦ rw (bound_there m t rows both.0, pair_no m t r (λ pair. g.1 pair.1)) refl
      ])
  | inr h ↦ rw (bound_there m t rows (rw h.0 at none), pair_no m t r (λ pair. h.1 pair.0)) refl
]

pub bound_some : (m t word : ℕ) (rows : List Entry) → word_in (answers_of m rows) t ≡ Some word → bound_in m t rows ≡ None → ⊥
bound_some m t word [] some none = (let never : None ≡ Some word = some in cc)
bound_some m t word (r ∷ rows) some none =
    let both = none_or (bound_in m t rows) (if is_pair m t r then Some r.bound else None) none in
    elim (eqb_tells r.mutation m) [
      | inl h ↦ elim (eqb_tells r.test t) [
        | inl g ↦ (let is : is_pair m t r ≡ true = pair_yes m t r (h.1, g.1) in let never : Some r.bound ≡ None = sym (ap (λ (b : Bool). if b then Some r.bound else None) is) ∙ both.1 in cc)
        | inr g ↦ (let here : option_or (word_in (answers_of m rows) t) None ≡ Some word = rw (h.0, g.0) at some in bound_some m t word rows (sym (or_none (word_in (answers_of m rows) t)) ∙ here) both.0)
      ]
      | inr h ↦ bound_some m t word rows (rw h.0 at some) both.0
    ]
