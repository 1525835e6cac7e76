-- Not more sites are selected than the size: in a total order at most so many elements have fewer than so many before them.
use Rattle.mutation_select.proofs.Common.{◌≡◌, ◌≢◌, ℕ, zero, suc, ◌+◌, ◌≤◌, ◌<◌, Bool, true, false, true≢false, List, [], ◌∷◌, length, get_or, map, cond, refl, sym, ap, ◌∙◌, subst, rules, arith, eqb}
use Rattle.mutation_select.proofs.Common.{ltb, filter, IsTotalOrder, comparing, count_by, Ordering, Less, Equal, Greater, is_lt, is_gt, ordering_reverse, nat_tests, upto, tied_itself, length-filter}
use Rattle.mutation_select.proofs.Common.{Draw, Drawn, Pick, Plain, Even, drawn, draw_cmp, draw_number, draws, is_taken, kept, number_of, rank, selected, with_rank, Ascends, false_from_ne_true}
use Rattle.std.proofs.lemmas.List.{length-map, get_or-map}
use Rattle.mutation_select.specs.Laws.{SelectionsAreFew}
use Rattle.mutation_select.proofs.Counts.{count-cons, count-no, count-yes}
use Rattle.mutation_select.proofs.Numbered.{drawn-ascends, kept-ascends, length-draws}
use Rattle.std.proofs.lemmas.Map.Views.{exact_unsigned_eq}
use Rattle.mutation_select.proofs.Firsts.{draw_tells}

-- Counts.

at_most : (b c : Bool) → (b ≡ true → c ≡ true) → cond b 1 0 ≤ cond c 1 0
at_most true c on = subst (λ (c : Bool). 1 ≤ cond c 1 0) (sym (on refl)) (omega arith)
at_most false c on = omega arith

-- a number that is below one more is below it or is it
split : (a k : ℕ) → cond (ltb a (suc k)) 1 0 ≤ cond (ltb a k) 1 0 + cond (eqb a k) 1 0
split a k = grind (arith, nat_tests)

not_below : (n : ℕ) → ltb n 0 ≡ true → ⊥
not_below n is = absurd (grind (arith, nat_tests))

module _ {X : Type 0} where
  none : (p : X → Bool) (xs : List X) → ((k : ℕ) (d : X) → k < length xs → p (get_or xs k d) ≡ true → ⊥) → count_by p xs ≡ 0
  none p [] misses = refl
  none p (x ∷ xs) misses = omega (arith, count-no p x xs (false_from_ne_true (p x) (misses zero x (omega arith))), none p xs (λ k d within. misses (suc k) d (omega (arith, within))))

  -- a test that does not pass at two places
  single_by : (p : X → Bool) (x : X) (xs : List X) (b : Bool) → p x ≡ b → (b ≡ true → (k : ℕ) (d : X) → k < length xs → p (get_or xs k d) ≡ true → ⊥) → count_by p xs ≤ 1 → count_by p (x ∷ xs) ≤ 1
  single_by p x xs true is apart rest = omega (arith, count-yes p x xs is, none p xs (apart refl))
  single_by p x xs false is apart rest = omega (arith, count-no p x xs is, rest)

  single : (p : X → Bool) (xs : List X) → ((i j : ℕ) (d : X) → i < j → j < length xs → p (get_or xs i d) ≡ true → p (get_or xs j d) ≡ true → ⊥) → count_by p xs ≤ 1
  single p [] apart = omega arith
  single p (x ∷ xs) apart =
      single_by p x xs (p x) refl (λ is k d within. apart zero (suc k) d (omega arith) (omega (arith, within)) is)
      (single p xs (λ i j d less within. apart (suc i) (suc j) d (omega (arith, less)) (omega (arith, within))))

  -- a test that passes wherever another does, and at one place more
  no_fewer : (p q : X → Bool) (xs : List X) → ((x : X) → p x ≡ true → q x ≡ true) → count_by p xs ≤ count_by q xs
  no_fewer p q [] on = omega arith
  no_fewer p q (x ∷ xs) on = omega (arith, count-cons p x xs, count-cons q x xs, at_most (p x) (q x) (on x), no_fewer p q xs on)

  fewer : (p q : X → Bool) (xs : List X) (i : ℕ) (d : X) → ((x : X) → p x ≡ true → q x ≡ true) → i < length xs → p (get_or xs i d) ≡ false → q (get_or xs i d) ≡ true → count_by p xs < count_by q xs
  fewer p q [] i d on within here there = absurd (omega (arith, within))
  fewer p q (x ∷ xs) zero d on within here there = omega (arith, count-no p x xs here, count-yes q x xs there, no_fewer p q xs on)
  fewer p q (x ∷ xs) (suc i) d on within here there = omega (arith, count-cons p x xs, count-cons q x xs, at_most (p x) (q x) (on x), fewer p q xs i d on (omega (arith, within)) here there)

  split_all : (f : X → ℕ) (k : ℕ) (xs : List X) → count_by (λ x. ltb (f x) (suc k)) xs ≤ count_by (λ x. ltb (f x) k) xs + count_by (λ x. eqb (f x) k) xs
  split_all f k [] = omega arith
  split_all f k (x ∷ xs) = omega (arith, count-cons (λ x. ltb (f x) (suc k)) x xs, count-cons (λ x. ltb (f x) k) x xs, count-cons (λ x. eqb (f x) k) x xs, split (f x) k, split_all f k xs)

  none_below : (f : X → ℕ) (xs : List X) → count_by (λ x. ltb (f x) 0) xs ≡ 0
  none_below f xs = none (λ x. ltb (f x) 0) xs (λ k d within. not_below (f (get_or xs k d)))

-- In a total order, where each has a number of its own.

module _ {X : Type 0} (R : X → X → Ordering) (o : IsTotalOrder R) (number : X → ℕ) (tells : (x y : X) → R x y ≡ Equal → number x ≡ number y) where
  below_by : (r s : Ordering) → s ≡ ordering_reverse r → is_gt r ≡ false → is_lt s ≡ false
  below_by Less s turn h = ap is_lt turn
  below_by Equal s turn h = ap is_lt turn
  below_by Greater s turn h = absurd (true≢false h)

  above_by : (r s : Ordering) → s ≡ ordering_reverse r → is_lt r ≡ false → is_gt s ≡ false
  above_by Less s turn h = absurd (true≢false h)
  above_by Equal s turn h = ap is_gt turn
  above_by Greater s turn h = ap is_gt turn

  off_by : (r s : Ordering) → s ≡ ordering_reverse r → is_lt r ≡ true → is_lt s ≡ false
  off_by Less s turn h = ap is_lt turn
  off_by Equal s turn h = absurd (true≢false (sym h))
  off_by Greater s turn h = absurd (true≢false (sym h))

  turned_by : (x y : X) (r s : Ordering) → R x y ≡ r → s ≡ ordering_reverse r → is_lt r ≡ false → number x ≢ number y → is_lt s ≡ true
  turned_by x y Less s is turn h apart = absurd (true≢false h)
  turned_by x y Equal s is turn h apart = absurd (apart (tells x y is))
  turned_by x y Greater s is turn h apart = ap is_lt turn

  -- what is below an element is below those above it
  lower : (x y z : X) → is_lt (R x y) ≡ true → is_lt (R z x) ≡ true → is_lt (R z y) ≡ true
  lower x y z below here = by (is_lt (R z y)) refl
    where
      by : (b : Bool) → is_lt (R z y) ≡ b → is_lt (R z y) ≡ true
      by true is = is
      by false is =
          let back : is_lt (R y x) ≡ false = off_by (R x y) (R y x) (o.antisymm y x) below in
          let behind : is_lt (R z x) ≡ false = below_by (R x z) (R z x) (o.antisymm z x) (upto o x y z (above_by (R y x) (R x y) (o.antisymm x y) back) (above_by (R z y) (R y z) (o.antisymm y z) is)) in
          absurd (true≢false (sym here ∙ behind))

  module _ (all : List X) (apart : (i j : ℕ) (d : X) → i < j → j < length all → number (get_or all i d) ≢ number (get_or all j d)) where
    abbrev before : X → ℕ
    before d = count_by (λ e. is_lt (R e d)) all

    more_before : (i : ℕ) (d y : X) → i < length all → is_lt (R (get_or all i d) y) ≡ true → before (get_or all i d) < before y
    more_before i d y within below =
        let x = get_or all i d in
        fewer (λ e. is_lt (R e x)) (λ e. is_lt (R e y)) all i d (λ z. lower x y z below) within (ap is_lt (tied_itself o x)) below

    differ : (i j : ℕ) (d : X) → i < j → j < length all → before (get_or all i d) ≢ before (get_or all j d)
    differ i j d less within same = by (is_lt (R (get_or all i d) (get_or all j d))) refl
      where
        by : (b : Bool) → is_lt (R (get_or all i d) (get_or all j d)) ≡ b → ⊥
        by true is = omega (arith, same, more_before i d (get_or all j d) (omega (arith, less, within)) is)
        by false is =
            let x = get_or all i d in
            let y = get_or all j d in
            let back = turned_by x y (R x y) (R y x) refl (o.antisymm y x) is (apart i j d less within) in
            omega (arith, same, more_before j d x within back)

    one_at : (k : ℕ) → count_by (λ d. eqb (before d) k) all ≤ 1
    one_at k = single (λ d. eqb (before d) k) all (λ i j d less within here there. differ i j d less within (exact_unsigned_eq (before (get_or all i d)) k here ∙ sym (exact_unsigned_eq (before (get_or all j d)) k there)))

    few_below : (size : ℕ) → count_by (λ d. ltb (before d) size) all ≤ size
    few_below zero = omega (arith, none_below before all)
    few_below (suc k) = omega (arith, split_all before k all, few_below k, one_at k)

-- Draws.

draw_total : IsTotalOrder draw_cmp
draw_total = search (comparing, rules)

ranked_number : (f : Drawn → ℕ) (words : List Drawn) (k : ℕ) (d : Draw) (e : Drawn) → k < length words → draw_number (get_or (map (λ w. with_rank (f w) w) words) k d) ≡ number_of (get_or words k e)
ranked_number f words k d e within = ap draw_number (get_or-map (λ w. with_rank (f w) w) words k e d within)

draws_number : (pick : Pick) (words : List Drawn) (k : ℕ) (d : Draw) (e : Drawn) → k < length words → draw_number (get_or (draws pick words) k d) ≡ number_of (get_or words k e)
draws_number Plain words k d e within = ranked_number (λ w. 0) words k d e within
draws_number Even words k d e within = ranked_number (rank words) words k d e within

-- numbers that ascend are apart
ascends_above : (i : ℕ) (ns : List ℕ) (k : ℕ) → Ascends i ns → k < length ns → i ≤ get_or ns k 0
ascends_above i [] k ascends within = absurd (omega (arith, within))
ascends_above i (n ∷ more) zero ascends within = ascends.0
ascends_above i (n ∷ more) (suc k) ascends within = omega (arith, ascends.0, ascends_above (n + 1) more k ascends.1 (omega (arith, within)))

ascends_less : (i : ℕ) (ns : List ℕ) (j k : ℕ) → Ascends i ns → j < k → k < length ns → get_or ns j 0 < get_or ns k 0
ascends_less i [] j k ascends less within = absurd (omega (arith, within))
ascends_less i (n ∷ more) zero zero ascends less within = absurd (omega (arith, less))
ascends_less i (n ∷ more) zero (suc k) ascends less within = omega (arith, ascends_above (n + 1) more k ascends.1 (omega (arith, within)))
ascends_less i (n ∷ more) (suc j) zero ascends less within = absurd (omega (arith, less))
ascends_less i (n ∷ more) (suc j) (suc k) ascends less within = ascends_less (n + 1) more j k ascends.1 (omega (arith, less)) (omega (arith, within))

selected_few : (pick : Pick) (size : ℕ) (words : List Drawn) → Ascends 0 (map number_of words) → length (selected pick size words) ≤ size
selected_few pick size words ascends =
    let all : List Draw = draws pick words in
    let long : length all ≡ length words = length-draws pick words in
    let e : Drawn = record { file = 0; line = 0; word = 0; number = 0 } in
    let at : (k : ℕ) (d : Draw) → k < length all → draw_number (get_or all k d) ≡ get_or (map number_of words) k 0 = λ k d within.
    draws_number pick words k d e (omega (arith, within, long)) ∙ sym (get_or-map number_of words k e 0 (omega (arith, within, long))) in
    let many : length (map number_of words) ≡ length words = length-map words number_of in
    let apart : (i j : ℕ) (d : Draw) → i < j → j < length all → draw_number (get_or all i d) ≢ draw_number (get_or all j d) = λ i j d less within same.
    omega (arith, same, at i d (omega (arith, less, within)), at j d within, ascends_less 0 (map number_of words) i j ascends less (omega (arith, within, long, many))) in
    omega (arith, length-map (filter (is_taken size all) all) draw_number, length-filter (is_taken size all) all, few_below draw_cmp draw_total draw_number draw_tells all apart size)

pub within_size : SelectionsAreFew
within_size pick size netlist g sites omitted = selected_few pick size (kept omitted (drawn netlist g 0 sites)) (kept-ascends omitted (drawn netlist g 0 sites) (drawn-ascends netlist g 0 sites))
