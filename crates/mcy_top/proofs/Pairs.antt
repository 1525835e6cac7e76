-- Pairs of a mutation and a test among rows: a pair has a further row only where each row before gave it up under less, and it is given
-- up just where its last word is UNKNOWN.
use Rattle.mcy_top.proofs.Common.{◌≡◌, ◌⊎◌, arith, ℕ, ◌<◌, Bool, true, false, ◌==◌, inl, inr, List, [], ◌∷◌, ◌++◌, Option, None, Some, refl, sym, ap, subst, ◌∙◌, is_some, option_or, All, AllPairs}
use Rattle.mcy_top.proofs.Common.{Any, Contains, eqb_tells, All-cons, All-nil, Contains-append_left, Contains-push, Contains-push_cases, AllPairs-cons, Entry, Campaign, Answer, word_code, word_in}
use Rattle.mcy_top.proofs.Common.{answer_of, answers_of, bound_in, AreRowsIn, IsGivenUp, IsPair, IsRowIn, not_both, word_in-other, word_in-same, given_up, has_pair, is_given_up, IsAgain}
use Rattle.std.specs.Prelude.{IsSomeAnd}
use Rattle.result_book.specs.declared.script.TestWord.TheVariants.{Unknown}
use Rattle.result_book.proofs.Following.{row_again}
use Rattle.result_book.proofs.Grouping.{answers_of-other, answers_of-same, bound_in-other, bound_in-same, pair_no, pair_yes}

decide_pair : (m t : ℕ) (e : Entry) → IsPair m t e ⊎ (¬ IsPair m t e)
decide_pair m t e = elim (eqb_tells e.mutation m) [
  | inl h ↦ (elim (eqb_tells e.test t) [ inl k ↦ inl (h.1, k.1) | inr k ↦ inr (λ pair. k.1 pair.1) ])
  | inr h ↦ inr (λ pair. h.1 pair.0)
]

-- Rows of a pair that was given up.

-- where a pair may be run again under a bound, each of its rows gave it up under less
abbrev GaveUpLess : List Entry → Type 0
GaveUpLess rows = (m t bound : ℕ) → IsGivenUp rows m t bound → (row : Entry) → Contains rows row → IsPair m t row → (row.word ≡ word_code Unknown) × (row.bound < bound)

-- a row of a pair that has one before may stand only where the pair was given up
again_of : (first : Bool) (c : Campaign) (earlier : List Entry) (e : Entry) → IsRowIn first c earlier e → Any (IsPair e.mutation e.test) earlier → IsGivenUp earlier e.mutation e.test e.bound
again_of true c earlier e form some = absurd (not_both e.mutation e.test earlier form.follows.0.new some)
again_of false c earlier e form some = row_again c earlier e form some

has_one : (rows : List Entry) (row : Entry) (m t : ℕ) → Contains rows row → IsPair m t row → Any (IsPair m t) rows
has_one rows row m t has pair = (has.0, row, has.1, has.2, pair)

-- where the last row is of the pair, it says whether this was given up
last_same : (rows : List Entry) (e : Entry) (m t bound : ℕ) → IsPair m t e → IsGivenUp (rows ++ e ∷ []) m t bound → (e.word ≡ word_code Unknown) × (e.bound < bound)
last_same rows e m t bound pair up =
    let word : word_in (answers_of m (rows ++ e ∷ [])) t ≡ Some e.word = ap (λ (l : List Answer). word_in l t) (answers_of-same m rows e pair.0) ∙ word_in-same (answers_of m rows) (answer_of e) t pair.1 in
    let same : Some e.word ≡ Some (word_code Unknown) = sym word ∙ up.word in
    let is : e.word ≡ word_code Unknown = cc in
    let under : bound_in m t (rows ++ e ∷ []) ≡ Some e.bound = bound_in-same m t rows e (pair_yes m t e pair) in
    (is, subst (λ (o : Option ℕ). IsSomeAnd o (λ before. before < bound)) under up.below)

-- where it is of another, those before it say so
last_other : (rows : List Entry) (e : Entry) (m t bound : ℕ) → (¬ IsPair m t e) → IsGivenUp (rows ++ e ∷ []) m t bound → IsGivenUp rows m t bound
last_other rows e m t bound other up = record {
  word = sym same ∙ up.word;
  below = subst (λ (o : Option ℕ). IsSomeAnd o (λ before. before < bound)) (bound_in-other m t rows e (pair_no m t e other)) up.below;
}
  where
    same : word_in (answers_of m (rows ++ e ∷ [])) t ≡ word_in (answers_of m rows) t
    same = elim (eqb_tells e.mutation m) [
      | inl h ↦ ap (λ (l : List Answer). word_in l t) (answers_of-same m rows e h.1) ∙ word_in-other (answers_of m rows) (answer_of e) t (λ is. other (h.1, is))
      | inr h ↦ ap (λ (l : List Answer). word_in l t) (answers_of-other m rows e h.1)
    ]

less_more : (first : Bool) (c : Campaign) (earlier : List Entry) (e : Entry) → IsRowIn first c earlier e → GaveUpLess earlier → GaveUpLess (earlier ++ e ∷ [])
less_more first c earlier e form less m t bound up row has pair = elim (Contains-push_cases earlier e row has) [
  | inl before ↦ (elim (decide_pair m t e) [
    | inl is ↦ under before is
    | inr other ↦ less m t bound (last_other earlier e m t bound other up) row before pair
  ])
  | inr same ↦ subst (λ (r : Entry). (r.word ≡ word_code Unknown) × (r.bound < bound)) same (last_same earlier e m t bound (subst (IsPair m t) (sym same) pair) up)
]
  where
    under : Contains earlier row → IsPair m t e → (row.word ≡ word_code Unknown) × (row.bound < bound)
    under before is =
        let mine : IsPair e.mutation e.test row = (pair.0 ∙ sym is.0, pair.1 ∙ sym is.1) in
        let here : (row.word ≡ word_code Unknown) × (row.bound < e.bound) = less e.mutation e.test e.bound (again_of first c earlier e form (has_one earlier row e.mutation e.test before mine)) row before mine in
        let last : (e.word ≡ word_code Unknown) × (e.bound < bound) = last_same earlier e m t bound is up in
        (here.0, omega (arith, here.1, last.1))

less_none : GaveUpLess []
less_none m t bound up row has pair = absurd (omega (arith, has.1))

-- each later row of a pair comes after rows that gave it up under less
later_again : (first : Bool) (c : Campaign) (row : Entry) (earlier rows : List Entry) → GaveUpLess earlier → Contains earlier row → AreRowsIn first c earlier rows → All (IsAgain row) rows
later_again first c row earlier [] less has all = All-nil (IsAgain row)
later_again first c row earlier (e ∷ rows) less has all =
    All-cons (IsAgain row) e rows (λ pair. less e.mutation e.test e.bound (again_of first c earlier e all.0 (has_one earlier row e.mutation e.test has pair)) row has pair)
    (later_again first c row (earlier ++ e ∷ []) rows (less_more first c earlier e all.0 less) (Contains-append_left earlier (e ∷ []) row has) all.1)

again_all : (first : Bool) (c : Campaign) (earlier rows : List Entry) → GaveUpLess earlier → AreRowsIn first c earlier rows → AllPairs IsAgain rows
again_all first c earlier [] less all = λ i j d lt within. absurd (omega (arith, within))
again_all first c earlier (row ∷ rows) less all =
    let next : GaveUpLess (earlier ++ row ∷ []) = less_more first c earlier row all.0 less in
    AllPairs-cons IsAgain row rows (later_again first c row (earlier ++ row ∷ []) rows next (Contains-push earlier row) all.1) (again_all first c (earlier ++ row ∷ []) rows next all.1)

pub runs_once : (first : Bool) (c : Campaign) (rows : List Entry) → AreRowsIn first c [] rows → AllPairs IsAgain rows
runs_once first c rows all = again_all first c [] rows less_none all

-- Which pairs are given up.

some_or : (o : Option ℕ) (word : ℕ) → is_some (option_or o (Some word)) ≡ true
some_or None word = refl
some_or (Some x) word = refl

or_none : (o : Option ℕ) → option_or o None ≡ o
or_none None = refl
or_none (Some x) = refl

-- one row more in front: of the pair, or of another
word_here : (e : Entry) (rows : List Entry) (m t : ℕ) → IsPair m t e → word_in (answers_of m (e ∷ rows)) t ≡ option_or (word_in (answers_of m rows) t) (Some e.word)
word_here e rows m t pair = elim (eqb_tells e.mutation m) [
  | inl h ↦ (elim (eqb_tells e.test t) [ inl k ↦ rw (h.0, k.0) refl | inr k ↦ absurd (k.1 pair.1) ])
  | inr h ↦ absurd (h.1 pair.0)
]

word_behind : (e : Entry) (rows : List Entry) (m t : ℕ) → (¬ IsPair m t e) → word_in (answers_of m (e ∷ rows)) t ≡ word_in (answers_of m rows) t
word_behind e rows m t other = elim (eqb_tells e.mutation m) [
  | inl h ↦ (elim (eqb_tells e.test t) [ inl k ↦ absurd (other (h.1, k.1)) | inr k ↦ rw (h.0, k.0) (or_none (word_in (answers_of m rows) t)) ])
  | inr h ↦ rw h.0 refl
]

pair_here : (e : Entry) (rows : List Entry) (m t : ℕ) → IsPair m t e → has_pair (e ∷ rows) m t ≡ true
pair_here e rows m t pair = elim (eqb_tells e.mutation m) [
  | inl h ↦ (elim (eqb_tells e.test t) [ inl k ↦ rw (h.0, k.0) refl | inr k ↦ absurd (k.1 pair.1) ])
  | inr h ↦ absurd (h.1 pair.0)
]

pair_behind : (e : Entry) (rows : List Entry) (m t : ℕ) → (¬ IsPair m t e) → has_pair (e ∷ rows) m t ≡ has_pair rows m t
pair_behind e rows m t other = elim (eqb_tells e.mutation m) [
  | inl h ↦ (elim (eqb_tells e.test t) [ inl k ↦ absurd (other (h.1, k.1)) | inr k ↦ rw (h.0, k.0) refl ])
  | inr h ↦ rw h.0 refl
]

-- a pair has a row just where it has a last word
has_word : (rows : List Entry) (m t : ℕ) → has_pair rows m t ≡ is_some (word_in (answers_of m rows) t)
has_word [] m t = refl
has_word (e ∷ rows) m t = elim (decide_pair m t e) [
  | inl pair ↦ pair_here e rows m t pair ∙ sym (ap (λ (o : Option ℕ). is_some o) (word_here e rows m t pair) ∙ some_or (word_in (answers_of m rows) t) e.word)
  | inr other ↦ pair_behind e rows m t other ∙ has_word rows m t ∙ sym (ap (λ (o : Option ℕ). is_some o) (word_behind e rows m t other))
]

-- whether a last word is UNKNOWN
abbrev pub is_unknown : Option ℕ → Bool
is_unknown None = false
is_unknown (Some word) = word == word_code Unknown

-- a row in front of another pair plays no part
up_behind : (e : Entry) (rows : List Entry) (m t : ℕ) → (¬ IsPair m t e) → is_given_up (given_up (e ∷ rows)) m t ≡ is_given_up (given_up rows) m t
up_behind e rows m t other = elim (eqb_tells e.word 3) [
  | inl h ↦ by (has_pair rows e.mutation e.test) refl h.0
  | inr h ↦ rw h.0 refl
]
  where
    by : (has : Bool) → has_pair rows e.mutation e.test ≡ has → (e.word == 3) ≡ true → is_given_up (given_up (e ∷ rows)) m t ≡ is_given_up (given_up rows) m t
    by true has is = rw (is, has) refl
    by false has is = elim (eqb_tells e.mutation m) [
      | inl h ↦ (elim (eqb_tells e.test t) [ inl k ↦ absurd (other (h.1, k.1)) | inr k ↦ rw (is, has, h.0, k.0) refl ])
      | inr h ↦ rw (is, has, h.0) refl
    ]

-- one of the pair counts where it is the last
up_last : (e : Entry) (rows : List Entry) (m t : ℕ) → IsPair m t e → has_pair rows e.mutation e.test ≡ false → is_given_up (given_up rows) m t ≡ false → is_given_up (given_up (e ∷ rows)) m t ≡ (e.word == 3)
up_last e rows m t pair has none = elim (eqb_tells e.word 3) [
  | inl h ↦ (elim (eqb_tells e.mutation m) [
    | inl k ↦ (elim (eqb_tells e.test t) [ inl j ↦ rw (h.0, has, k.0, j.0) refl | inr j ↦ absurd (j.1 pair.1) ])
    | inr k ↦ absurd (k.1 pair.0)
  ])
  | inr h ↦ rw h.0 none
]

up_earlier : (e : Entry) (rows : List Entry) (m t : ℕ) → has_pair rows e.mutation e.test ≡ true → is_given_up (given_up (e ∷ rows)) m t ≡ is_given_up (given_up rows) m t
up_earlier e rows m t has = elim (eqb_tells e.word 3) [ inl h ↦ rw (h.0, has) refl | inr h ↦ rw h.0 refl ]

up_here : (e : Entry) (rows : List Entry) (m t : ℕ) (o : Option ℕ) → IsPair m t e → has_pair rows e.mutation e.test ≡ is_some o → is_given_up (given_up rows) m t ≡ is_unknown o → is_given_up (given_up (e ∷ rows)) m t ≡ is_unknown (option_or o (Some e.word))
up_here e rows m t None pair has up = up_last e rows m t pair has up
up_here e rows m t (Some word) pair has up = up_earlier e rows m t has ∙ up

-- A pair is given up among rows just where its last word is UNKNOWN.
pub given_last : (rows : List Entry) (m t : ℕ) → is_given_up (given_up rows) m t ≡ is_unknown (word_in (answers_of m rows) t)
given_last [] m t = refl
given_last (e ∷ rows) m t = elim (decide_pair m t e) [
  | inl pair ↦ up_here e rows m t (word_in (answers_of m rows) t) pair (has pair) (given_last rows m t) ∙ sym (ap is_unknown (word_here e rows m t pair))
  | inr other ↦ up_behind e rows m t other ∙ given_last rows m t ∙ sym (ap is_unknown (word_behind e rows m t other))
]
  where
    has : IsPair m t e → has_pair rows e.mutation e.test ≡ is_some (word_in (answers_of m rows) t)
    has pair = ap (λ (k : ℕ). has_pair rows k e.test) pair.0 ∙ ap (λ (k : ℕ). has_pair rows m k) pair.1 ∙ has_word rows m t
