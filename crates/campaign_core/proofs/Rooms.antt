-- The room for rows: what a run may add of the tests of its mutations falls with each row that it adds.
use Rattle.campaign_core.proofs.Common.{◌≡◌, inl, inr, arith, ℕ, zero, suc, ◌+◌, ◌*◌, ◌<◌, ◌≤◌, Bool, true, false, cond, List, [], ◌∷◌, ◌++◌, length, Option, None, Some, refl, sym, ◌∙◌, ap, ap₂}
use Rattle.campaign_core.proofs.Common.{subst, sum, unwrap_or, ◌==◌, le-ltb, eqb_tells, sum_by-cons, Entry, Campaign, Goal, is_given_up, is_open, next_bound, wanted, IsPair, answer_of, answers_of}
use Rattle.campaign_core.proofs.Common.{bound_in, each_from, word_code, word_in, word_in-other, word_in-same, all_left, mutation_left, rows_left, test_left, room_for, sum_most}
use Rattle.std.specs.Prelude.{◌&&◌}
use Rattle.result_book.specs.declared.script.TestWord.TheVariants.{Unknown}
use Rattle.result_book.proofs.Grouping.{answers_of-other, answers_of-same, bound_in-other, bound_in-same, pair_no, pair_yes}
use Rattle.campaign_core.proofs.Again.{bound_of_word, wanted_by_rows}

-- ---- sums of what each of some numbers has

sum_first : (f : ℕ → ℕ) (from n : ℕ) → sum (each_from f from (suc n)) ≡ f from + sum (each_from f (from + 1) n)
sum_first f from n = sum_by-cons (λ (x : ℕ). x) (f from) (each_from f (from + 1) n)

-- where none has more than before
sum_no_more : (f g : ℕ → ℕ) (from n : ℕ) → ((k : ℕ) → g k ≤ f k) → sum (each_from g from n) ≤ sum (each_from f from n)
sum_no_more f g from zero each = omega arith
sum_no_more f g from (suc n) each = omega (arith, sum_first f from n, sum_first g from n, each from, sum_no_more f g (from + 1) n each)

-- and one has less
pub sum_less : (f g : ℕ → ℕ) (from n k : ℕ) → k < n → ((j : ℕ) → g j ≤ f j) → g (from + k) < f (from + k) → sum (each_from g from n) < sum (each_from f from n)
sum_less f g from zero k within each less = absurd (omega arith)
sum_less f g from (suc n) zero within each less =
    let here : from + 0 ≡ from = omega arith in
    let first : g from < f from = subst (λ (i : ℕ). g i < f i) here less in
    omega (arith, sum_first f from n, sum_first g from n, first, sum_no_more f g (from + 1) n each)
sum_less f g from (suc n) (suc k) within each less =
    let place : from + suc k ≡ (from + 1) + k = omega arith in
    omega (arith, sum_first f from n, sum_first g from n, each from, sum_less f g (from + 1) n k (omega arith) each (subst (λ (i : ℕ). g i < f i) place less))

-- each is within the sum
pub sum_at : (f : ℕ → ℕ) (from n k : ℕ) → k < n → f (from + k) ≤ sum (each_from f from n)
sum_at f from zero k within = absurd (omega arith)
sum_at f from (suc n) zero within = let here : from + 0 ≡ from = omega arith in omega (arith, sum_first f from n, ap f here)
sum_at f from (suc n) (suc k) within =
    let place : from + suc k ≡ (from + 1) + k = omega arith in
    let rest = sum_at f (from + 1) n k (omega arith) in
    omega (arith, sum_first f from n, ap f place, rest)

-- ---- the rows that may be added

left_most : (limit : ℕ) (word bound : Option ℕ) → rows_left limit word bound ≤ 2
left_most limit None bound = omega arith
left_most limit (Some word) None = omega arith
left_most limit (Some word) (Some bound) = go (is_given_up limit word bound)
  where
    go : (b : Bool) → cond b 1 0 ≤ 2
    go true = omega arith
    go false = omega arith

-- there is room for all at first
pub all_within : (c : Campaign) (limit : ℕ) (rows : List Entry) → all_left c limit rows ≤ room_for c
all_within c limit rows =
    let tests : (m : ℕ) → mutation_left c limit rows m ≤ length c.kinds * 2 = λ m. sum_most (test_left limit rows m) 2 0 (length c.kinds) (λ t. left_most limit (word_in (answers_of m rows) t) (bound_in m t rows)) in
    let all = sum_most (mutation_left c limit rows) (length c.kinds * 2) 0 (length c.mutations) tests in
    let regroup : length c.mutations * (length c.kinds * 2) ≡ 2 * (length c.mutations * length c.kinds) = omega arith in
    omega (arith, all, regroup)

-- ---- one more row

-- the other tests are left as many
pub left_other : (limit : ℕ) (rows : List Entry) (e : Entry) (m t : ℕ) → ¬ IsPair m t e → test_left limit (rows ++ e ∷ []) m t ≡ test_left limit rows m t
left_other limit rows e m t other = elim (eqb_tells e.mutation m) [
  | inl h ↦ (let is : answers_of m (rows ++ e ∷ []) ≡ answers_of m rows ++ answer_of e ∷ [] = answers_of-same m rows e h.1 in
      rw (is, word_in-other (answers_of m rows) (answer_of e) t (λ same. other (h.1, same)), bound_in-other m t rows e (pair_no m t e other)) refl)
  | inr h ↦ rw (answers_of-other m rows e h.1, bound_in-other m t rows e (pair_no m t e other)) refl
]

left_after : (limit : ℕ) (rows : List Entry) (e : Entry) → test_left limit (rows ++ e ∷ []) e.mutation e.test ≡ cond (is_given_up limit e.word e.bound) 1 0
left_after limit rows e =
    rw (answers_of-same e.mutation rows e refl, word_in-same (answers_of e.mutation rows) (answer_of e) e.test refl, bound_in-same e.mutation e.test rows e (pair_yes e.mutation e.test e (refl, refl))) refl

-- the test whose row was wanted is left fewer
left_less : (c : Campaign) (rows : List Entry) (goal : Goal) (e : Entry) → wanted c rows e.mutation goal ≡ Some (record { test = e.test; bound = e.bound }) → e.test < 16
    → test_left goal.retry (rows ++ e ∷ []) e.mutation e.test < test_left goal.retry rows e.mutation e.test
left_less c rows goal e is inside = go (word_in (answers_of e.mutation rows) e.test) refl
  where
    opened : (is_open goal.retry (word_in (answers_of e.mutation rows) e.test) (unwrap_or (bound_in e.mutation e.test rows) 0) ≡ true) × (e.bound ≡ next_bound c goal.retry e.test (word_in (answers_of e.mutation rows) e.test))
    opened = wanted_by_rows c rows e.mutation goal (record { test = e.test; bound = e.bound }) is inside

    most : (b : Bool) → cond b 1 0 < 2
    most true = omega arith
    most false = omega arith

    -- a word under the limit itself is not asked again
    settled : (bound : ℕ) → bound ≡ goal.retry → is_given_up goal.retry e.word bound ≡ false
    settled bound same = rw (same, le-ltb goal.retry goal.retry (omega arith)) (and_false (e.word == word_code Unknown))
      where
        and_false : (b : Bool) → (b && false) ≡ false
        and_false true = refl
        and_false false = refl

    go : (o : Option ℕ) → word_in (answers_of e.mutation rows) e.test ≡ o → test_left goal.retry (rows ++ e ∷ []) e.mutation e.test < test_left goal.retry rows e.mutation e.test
    go None word =
        let before : test_left goal.retry rows e.mutation e.test ≡ 2 = ap (λ (o : Option ℕ). rows_left goal.retry o (bound_in e.mutation e.test rows)) word in
        omega (arith, left_after goal.retry rows e, most (is_given_up goal.retry e.word e.bound), before)
    go (Some w) word =
        let had = bound_of_word e.mutation e.test w rows word in
        let given_up : is_given_up goal.retry w had.0 ≡ true = sym (ap₂ (λ (o b : Option ℕ). is_open goal.retry o (unwrap_or b 0)) word had.1) ∙ opened.0 in
        let before : test_left goal.retry rows e.mutation e.test ≡ 1 = ap₂ (λ (o b : Option ℕ). rows_left goal.retry o b) word had.1 ∙ ap (λ (b : Bool). cond b 1 0) given_up in
        let bound : e.bound ≡ goal.retry = opened.1 ∙ ap (next_bound c goal.retry e.test) word in
        let after : test_left goal.retry (rows ++ e ∷ []) e.mutation e.test ≡ 0 = left_after goal.retry rows e ∙ ap (λ (b : Bool). cond b 1 0) (settled e.bound bound) in
        omega (arith, before, after)

at_place : (P : ℕ → Type 0) (k : ℕ) → P k → P (0 + k)
at_place P k h = let same : k ≡ 0 + k = omega arith in subst P same h

module _ (c : Campaign) (rows : List Entry) (goal : Goal) (e : Entry) (is : wanted c rows e.mutation goal ≡ Some (record { test = e.test; bound = e.bound })) (inside : e.test < 16) where
  each_test : (m t : ℕ) → test_left goal.retry (rows ++ e ∷ []) m t ≤ test_left goal.retry rows m t
  each_test m t = elim (eqb_tells e.mutation m) [
    | inl h ↦ (elim (eqb_tells e.test t) [
      | inl g ↦ (let less = left_less c rows goal e is inside in
          subst (λ (k : ℕ). test_left goal.retry (rows ++ e ∷ []) m k ≤ test_left goal.retry rows m k) g.1
          (subst (λ (k : ℕ). test_left goal.retry (rows ++ e ∷ []) k e.test ≤ test_left goal.retry rows k e.test) h.1 (omega (arith, less))))
      | inr g ↦ omega (arith, left_other goal.retry rows e m t (λ pair. g.1 pair.1))
    ])
    | inr h ↦ omega (arith, left_other goal.retry rows e m t (λ pair. h.1 pair.0))
  ]

  -- the tests of the row's mutation are left fewer
  pub mutation_less : e.test < length c.kinds → mutation_left c goal.retry (rows ++ e ∷ []) e.mutation < mutation_left c goal.retry rows e.mutation
  mutation_less test =
      sum_less (test_left goal.retry rows e.mutation) (test_left goal.retry (rows ++ e ∷ []) e.mutation) 0 (length c.kinds) e.test test (each_test e.mutation)
      (at_place (λ (t : ℕ). test_left goal.retry (rows ++ e ∷ []) e.mutation t < test_left goal.retry rows e.mutation t) e.test (left_less c rows goal e is inside))

  -- so all are
  pub all_less : e.mutation < length c.mutations → e.test < length c.kinds → all_left c goal.retry (rows ++ e ∷ []) < all_left c goal.retry rows
  all_less mutation test =
      sum_less (mutation_left c goal.retry rows) (mutation_left c goal.retry (rows ++ e ∷ [])) 0 (length c.mutations) e.mutation mutation
      (λ m. sum_no_more (test_left goal.retry rows m) (test_left goal.retry (rows ++ e ∷ []) m) 0 (length c.kinds) (each_test m))
      (at_place (λ (m : ℕ). mutation_left c goal.retry (rows ++ e ∷ []) m < mutation_left c goal.retry rows m) e.mutation (mutation_less test))
