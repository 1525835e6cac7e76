-- What is taken of draws: those in front, where as many are to be taken and none behind is less.
use Rattle.mutation_select.proofs.Common.{◌≡◌, ℕ, zero, suc, ◌≤◌, ◌<◌, true, false, List, [], ◌∷◌, ◌++◌, length, get_or, map, sym, ap, ◌∙◌, subst, rules, arith, eqb, ltb, filter, ◌&&◌, IsTotalOrder}
use Rattle.mutation_select.proofs.Common.{comparing, count_by, IsPermutation, IsSorted, IsSplitAround, Equal, is_lt, nat_cmp, le-ltb, lt-ltb, filter-append, recursion_from_All, IsPermutation-trans}
use Rattle.mutation_select.proofs.Common.{length_permutation, Draw, draw_cmp, draw_number, is_taken, taken, Ascends}
use Rattle.std.specs.Result.{IfOk}
use Rattle.std.specs.declared.result.Result.{Result}
use Rattle.std.specs.declared.result.Result.TheVariants.{Ok, Err}
use Rattle.std.proofs.lemmas.List.{append-nil, length-map}
use Rattle.mutation_select.proofs.Counts.{count-append, count-all, count-none, count-miss, count-permutation, count-map, count-filter, filter-all, filter-none}
use Rattle.mutation_select.proofs.Ascending.{times, times-once, sorted-numbers, Ascends-filter}
use Rattle.mutation_select.proofs.Order.{equal-last, equal-numbers, not-itself, turned, chained, differs}

pub draw_total : IsTotalOrder draw_cmp
draw_total = search (comparing, rules)

pub draw_tells : (x y : Draw) → draw_cmp x y ≡ Equal → draw_number x ≡ draw_number y
draw_tells x y h = equal-numbers x.number y.number (equal-last (nat_cmp x.word y.word) _ (equal-last (nat_cmp x.rank y.rank) _ h))

-- how many of the draws are less than this one
abbrev less : List Draw → Draw → ℕ
less all d = count_by (λ e. is_lt (draw_cmp e d)) all

-- none of the draws behind is less than one in front
abbrev pub Splits : List Draw → List Draw → Type 0
Splits front back = (i j : ℕ) (d e : Draw) → i < length front → j < length back → is_lt (draw_cmp (get_or back j e) (get_or front i d)) ≡ false

module _ (front back : List Draw) (splits : Splits front back) (once : (n : ℕ) → count_by (λ (x : Draw). eqb n (draw_number x)) (front ++ back) ≤ 1) where
  less-front : (i : ℕ) (d : Draw) → i < length front → less (front ++ back) (get_or front i d) < length front
  less-front i d h =
      let f = get_or front i d in
      let p = λ (e : Draw). is_lt (draw_cmp e f) in
      omega (arith, count-append p front back, count-none p back (recursion_from_All (λ (x : Draw). p x ≡ false) back (λ j e k. splits i j d e h k)), count-miss p front i d h (not-itself draw_cmp draw_total draw_number draw_tells f))

  less-back : (j : ℕ) (e : Draw) → j < length back → length front ≤ less (front ++ back) (get_or back j e)
  less-back j e k =
      let b = get_or back j e in
      let p = λ (x : Draw). is_lt (draw_cmp x b) in
      let all = count-all p front (recursion_from_All (λ (x : Draw). p x ≡ true) front (λ i d h. turned draw_cmp draw_total draw_number draw_tells (get_or front i d) b (splits i j d e h k) (differs draw_cmp draw_total draw_number draw_tells front back i j d e h k once))) in
      omega (arith, count-append p front back, all)

  taken-front : (size : ℕ) → length front ≤ size → (0 < length back → size ≡ length front) → filter (is_taken size (front ++ back)) (front ++ back) ≡ front
  taken-front size fits full =
      let p = is_taken size (front ++ back) in
      let yes_front = filter-all p front (recursion_from_All (λ (x : Draw). p x ≡ true) front (λ i d h. lt-ltb (less (front ++ back) (get_or front i d)) size (omega (arith, fits, less-front i d h)))) in
      let none_back = filter-none p back (recursion_from_All (λ (x : Draw). p x ≡ false) back (λ j e k. le-ltb (less (front ++ back) (get_or back j e)) size (omega (arith, full (omega (arith, k)), less-back j e k)))) in
      filter-append p front back ∙ rw (yes_front, none_back) (append-nil front)

-- the numbers of those in front, in order, are what is taken of the draws in the order of their numbers
once-in : (all draws : List Draw) → IsPermutation all draws → Ascends 0 (map draw_number all) → (n : ℕ) → count_by (λ (x : Draw). eqb n (draw_number x)) draws ≤ 1
once-in all draws same ascends n =
    omega (arith, count-permutation (λ (x : Draw). eqb n (draw_number x)) all draws same, count-map (λ x. eqb n x) draw_number all, times-once 0 n (map draw_number all) ascends)

taken-same : (size : ℕ) (all draws : List Draw) → IsPermutation all draws → is_taken size all ≡ is_taken size draws
taken-same size all draws same i d = ltb (sym (count-permutation (λ e. is_lt (draw_cmp e d)) all draws same) i) size

taken-times : (size : ℕ) (all draws : List Draw) → IsPermutation all draws → (n : ℕ) → times n (map draw_number (filter (is_taken size draws) draws)) ≡ times n (taken size all)
taken-times size all draws same n =
    let q = λ (x : Draw). eqb n (draw_number x) in
    let p = is_taken size draws in
    let there : times n (map draw_number (filter p draws)) ≡ count_by (λ x. p x && q x) draws = count-map (λ x. eqb n x) draw_number (filter p draws) ∙ count-filter p q draws in
    let here : times n (map draw_number (filter p all)) ≡ count_by (λ x. p x && q x) all = count-map (λ x. eqb n x) draw_number (filter p all) ∙ count-filter p q all in
    there ∙ count-permutation (λ x. p x && q x) all draws same ∙ sym here ∙ ap (λ t. times n (map draw_number (filter t all))) (sym (taken-same size all draws same))

pub taken-numbers : (size : ℕ) (all front back : List Draw) (numbers : List ℕ) → IsPermutation all (front ++ back) → Ascends 0 (map draw_number all) → Splits front back → length front ≤ size → (0 < length back → size ≡ length front) → IsPermutation (map draw_number front) numbers → IsSorted nat_cmp numbers → numbers ≡ taken size all
taken-numbers size all front back numbers same ascends splits fits full permuted sorted =
    let draws = front ++ back in
    let first : filter (is_taken size draws) draws ≡ front = taken-front front back splits (once-in all draws same ascends) size fits full in
    let counted : (n : ℕ) → times n numbers ≡ times n (taken size all) = λ n. count-permutation (λ x. eqb n x) (map draw_number front) numbers permuted ∙ ap (λ f. times n (map draw_number f)) (sym first) ∙ taken-times size all draws same n in
    sorted-numbers (taken size all) numbers (Ascends-filter (is_taken size all) draw_number 0 all ascends) counted sorted

-- what a partition gives: those in front, and the pivot with those behind
pub partition-splits : (front : List Draw) (x : Draw) (back : List Draw) → IsSplitAround draw_cmp front x back → Splits front (x ∷ back)
partition-splits front x back around i zero d e h k = around.0 i d h
partition-splits front x back around i (suc j) d e h k = chained draw_cmp draw_total draw_number draw_tells (get_or front i d) x (get_or back j e) (around.0 i d h) (around.1 j e (omega (arith, k)))

none-behind : (front : List Draw) → Splits front []
none-behind front i j d e h k = absurd (omega (arith, k))

-- what the call gives, where there are more draws than are to be taken, and where there are not
module _ {V E : Type 0} (items : V → List ℕ) where
  pub of-more : (size : ℕ) (draws front : List Draw) (x : Draw) (back : List Draw) (r : Result V E) → IsPermutation draws (front ++ x ∷ back) → length front ≡ size → IsSplitAround draw_cmp front x back → IfOk r (λ v. IsPermutation (map draw_number front) (items v)) → IfOk r (λ v. IsSorted nat_cmp (items v)) → IfOk r (λ v. (all : List Draw) → IsPermutation all draws → Ascends 0 (map draw_number all) → items v ≡ taken size all)
  of-more size draws front x back (Ok v) whole full around permuted sorted =
      λ all same ascends. taken-numbers size all front (x ∷ back) (items v) (IsPermutation-trans all draws (front ++ x ∷ back) same whole) ascends (partition-splits front x back around) (omega (arith, full)) (λ h. sym full) permuted sorted
  of-more size draws front x back (Err e) whole full around permuted sorted = tt

  pub of-all : (size : ℕ) (draws : List Draw) (r : Result V E) → length draws ≤ size → IfOk r (λ v. IsPermutation (map draw_number draws) (items v)) → IfOk r (λ v. IsSorted nat_cmp (items v)) → IfOk r (λ v. (all : List Draw) → IsPermutation all draws → Ascends 0 (map draw_number all) → items v ≡ taken size all)
  of-all size draws (Ok v) few permuted sorted =
      λ all same ascends. taken-numbers size all draws [] (items v) (subst (λ list. IsPermutation all list) (sym (append-nil draws)) same) ascends (none-behind draws) few (λ h. absurd (omega (arith, h))) permuted sorted
  of-all size draws (Err e) few permuted sorted = tt

  -- how many there are
  pub as-many : (n : ℕ) (front : List Draw) (r : Result V E) → length front ≡ n → IfOk r (λ v. IsPermutation (map draw_number front) (items v)) → IfOk r (λ v. length (items v) ≡ n)
  as-many n front (Ok v) full permuted = length_permutation (map draw_number front) (items v) permuted ∙ length-map front draw_number ∙ full
  as-many n front (Err e) full permuted = tt
