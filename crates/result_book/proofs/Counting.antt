-- How many rows there are: of each pair at most one more than there are round numbers up to its last bound.
use Rattle.result_book.proofs.Common.{◌≡◌, inl, inr, arith, ℕ, zero, suc, ◌+◌, ◌*◌, ◌<◌, ◌≤◌, true, List, [], ◌∷◌, ◌++◌, length, set, get_or, sum, Option, None, Some, refl, sym, ◌∙◌, ap, subst}
use Rattle.result_book.proofs.Common.{append_assoc, length-append, IsSomeAnd, eqb_tells, get_or_from_slice_get, append-nil, sum_by-replicate, sum_by-cons, sum_by-set, Entry, Campaign, is_round}
use Rattle.result_book.proofs.Common.{each_from, IsFit, MayFollow, answer_of, answers_of, bound_in, AreRows, IsRow}
use Rattle.result_book.proofs.Asking.{need_new}
use Rattle.result_book.proofs.Each.{each_from-all, each_at, each_from-same, each_set, length-each_from}
use Rattle.result_book.proofs.Grouping.{answers_of-other, answers_of-same, bound_in-other, bound_in-same, pair_no, pair_yes}
use Rattle.result_book.proofs.Pairs.{bound_there}
use Rattle.result_book.proofs.Rounding.{rank, rank_less, rank_most}

-- at most so many rows has a pair with this last bound
abbrev cap : Option ℕ → ℕ
cap None = 0
cap (Some bound) = 1 + rank bound

abbrev caps_on : ℕ → List Entry → List ℕ
caps_on m rows = each_from (λ t. cap (bound_in m t rows)) 0 16

abbrev lengths : Campaign → List Entry → List ℕ
lengths c rows = each_from (λ m. length (answers_of m rows)) 0 (length c.mutations)

-- Each mutation has at most as many rows as its tests may have, and there are as many rows as the mutations have.
record AreCounted (c : Campaign) (rows : List Entry) : Type 0 where
  each : (m : ℕ) → length (answers_of m rows) ≤ sum (caps_on m rows)
  all : sum (lengths c rows) ≡ length rows

counted_none : (c : Campaign) → AreCounted c []
counted_none c = record {
  each = λ m. omega arith;
  all = ap sum (each_from-all (λ m. length (answers_of m [])) 0 0 (length c.mutations) (λ m. refl)) ∙ sum_by-replicate (λ (n : ℕ). n) (length c.mutations) 0 ∙ (let e : length c.mutations * 0 ≡ 0 = omega arith in e);
}

-- a further row of a pair, or its first, has room
room_more : (c : Campaign) (rows : List Entry) (m t bound : ℕ) → IsFit c → MayFollow c rows m t bound → cap (bound_in m t rows) + 1 ≤ cap (Some bound)
room_more c rows m t bound fit follows = elim follows [
  | inl new ↦ (let none : bound_in m t rows ≡ None = bound_there m t rows (need_new c (answers_of m rows) t fit new.0.asked) in
      let no_rows : cap (bound_in m t rows) ≡ 0 = ap cap none in omega (arith, no_rows))
  | inr again ↦ grown again.round again.most (bound_in m t rows) again.given_up.below
]
  where
    grown : is_round bound ≡ true → bound ≤ 100000 → (o : Option ℕ) → IsSomeAnd o (λ before. before < bound) → cap o + 1 ≤ cap (Some bound)
    grown round most None h = absurd h
    grown round most (Some before) h = omega (arith, rank_less before bound h most round)

counted_each : (c : Campaign) (rows : List Entry) (e : Entry) → IsFit c → AreCounted c rows → IsRow c rows e → (m : ℕ) → length (answers_of m (rows ++ e ∷ [])) ≤ sum (caps_on m (rows ++ e ∷ []))
counted_each c rows e fit counted row m = elim (eqb_tells e.mutation m) [
  | inl h ↦ subst (λ (k : ℕ). length (answers_of k (rows ++ e ∷ [])) ≤ sum (caps_on k (rows ++ e ∷ []))) h.1 grown
  | inr h ↦ (let same : length (answers_of m (rows ++ e ∷ [])) ≡ length (answers_of m rows) = ap length (answers_of-other m rows e h.1) in
      let caps : caps_on m (rows ++ e ∷ []) ≡ caps_on m rows = each_from-same (λ t. cap (bound_in m t rows)) (λ t. cap (bound_in m t (rows ++ e ∷ []))) 0 16 (λ t above. ap cap (bound_in-other m t rows e (pair_no m t e (λ pair. h.1 pair.0)))) in
      omega (arith, same, ap sum caps, counted.each m))
]
  where
    grown : length (answers_of e.mutation (rows ++ e ∷ [])) ≤ sum (caps_on e.mutation (rows ++ e ∷ []))
    grown =
        let k : ℕ = e.mutation in
        let t : ℕ = e.test in
        let inside : t < 16 = omega (arith, row.test, fit.few_tests) in
        let before : ℕ → ℕ = λ j. cap (bound_in k j rows) in
        let after : ℕ → ℕ = λ j. cap (bound_in k j (rows ++ e ∷ [])) in
        let new : after t ≡ cap (Some e.bound) = ap cap (bound_in-same k t rows e (pair_yes k t e (refl, refl))) in
        let caps : caps_on k (rows ++ e ∷ []) ≡ set (caps_on k rows) t (after t) = each_set before after 16 t inside (λ j other. ap cap (bound_in-other k j rows e (pair_no k j e (λ pair. other (sym pair.1))))) in
        let long : length (caps_on k rows) ≡ 16 = length-each_from before 0 16 in
        let was : get_or (caps_on k rows) t 0 ≡ before t = get_or_from_slice_get (caps_on k rows) t (before t) 0 (each_at before 16 t inside) in
        let sums = sum_by-set (λ (x : ℕ). x) (caps_on k rows) t (after t) 0 (omega (arith, long, inside)) in
        let longer : length (answers_of k (rows ++ e ∷ [])) ≡ length (answers_of k rows) + 1 = ap length (answers_of-same k rows e refl) ∙ length-append (answers_of k rows) (answer_of e ∷ []) in
        omega (arith, ap sum caps, sums, was, new, longer, room_more c rows k t e.bound fit row.follows, counted.each k)

counted_all : (c : Campaign) (rows : List Entry) (e : Entry) → AreCounted c rows → IsRow c rows e → sum (lengths c (rows ++ e ∷ [])) ≡ length (rows ++ e ∷ [])
counted_all c rows e counted row =
    let n : ℕ = length c.mutations in
    let m : ℕ = e.mutation in
    let before : ℕ → ℕ = λ k. length (answers_of k rows) in
    let after : ℕ → ℕ = λ k. length (answers_of k (rows ++ e ∷ [])) in
    let more : lengths c (rows ++ e ∷ []) ≡ set (lengths c rows) m (after m) = each_set before after n m row.mutation (λ k other. ap length (answers_of-other k rows e (λ same. other (sym same)))) in
    let long : length (lengths c rows) ≡ n = length-each_from before 0 n in
    let was : get_or (lengths c rows) m 0 ≡ before m = get_or_from_slice_get (lengths c rows) m (before m) 0 (each_at before n m row.mutation) in
    let grown : after m ≡ before m + 1 = ap length (answers_of-same m rows e refl) ∙ length-append (answers_of m rows) (answer_of e ∷ []) in
    let sums = sum_by-set (λ (x : ℕ). x) (lengths c rows) m (after m) 0 (omega (arith, long, row.mutation)) in
    omega (arith, ap sum more, sums, was, grown, length-append rows (e ∷ []), counted.all)

counted_rows : (c : Campaign) (earlier rows : List Entry) → IsFit c → AreCounted c earlier → AreRows c earlier rows → AreCounted c (earlier ++ rows)
counted_rows c earlier [] fit counted all = subst (AreCounted c) (sym (append-nil earlier)) counted
counted_rows c earlier (e ∷ rows) fit counted all =
    subst (AreCounted c) (append_assoc earlier (e ∷ []) rows) (counted_rows c (earlier ++ e ∷ []) rows fit (record { each = counted_each c earlier e fit counted all.0; all = counted_all c earlier e counted all.0 }) all.1)

-- a cap is at most 371
cap_most : (o : Option ℕ) → cap o ≤ 371
cap_most None = omega arith
cap_most (Some bound) = omega (arith, rank_most bound)

pub sum_most : (f : ℕ → ℕ) (most from n : ℕ) → ((k : ℕ) → f k ≤ most) → sum (each_from f from n) ≤ n * most
sum_most f most from zero each = omega arith
sum_most f most from (suc n) each =
    let step : n * most + most ≡ suc n * most = omega arith in
    omega (arith, step, each from, sum_most f most (from + 1) n each, sum_by-cons (λ (x : ℕ). x) (f from) (each_from f (from + 1) n))

-- a mutation has at most 371 rows for each of the 16 tests
pub few_answers : (c : Campaign) (rows : List Entry) (m : ℕ) → IsFit c → AreRows c [] rows → length (answers_of m rows) ≤ 5936
few_answers c rows m fit all =
    let counted : AreCounted c rows = counted_rows c [] rows fit (counted_none c) all in
    omega (arith, counted.each m, sum_most (λ t. cap (bound_in m t rows)) 371 0 16 (λ t. cap_most (bound_in m t rows)))

pub few_rows : (c : Campaign) (rows : List Entry) → IsFit c → AreRows c [] rows → length rows ≤ 5936 * length c.mutations
few_rows c rows fit all =
    let counted : AreCounted c rows = counted_rows c [] rows fit (counted_none c) all in
    let sums : sum (lengths c rows) ≤ length c.mutations * 5936 = sum_most (λ m. length (answers_of m rows)) 5936 0 (length c.mutations) (λ m. few_answers c rows m fit all) in
    omega (arith, counted.all, sums)
