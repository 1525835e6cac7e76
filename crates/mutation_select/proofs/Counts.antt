-- How many elements of a list pass a test.
use Rattle.mutation_select.proofs.Common.{◌≡◌, ℕ, zero, suc, ◌+◌, ◌≤◌, ◌<◌, Bool, true, false, List, [], ◌∷◌, ◌++◌, length, get_or, map, cond, refl, ap, ◌∙◌, subst, arith, filter, ◌&&◌, count_by}
use Rattle.mutation_select.proofs.Common.{sum_by, AllByRecursion, IsPermutation, IsSortedBy, sum_by-cons, sum_by-append, get_or-le-sum_by, sum_by-IsPermutation}

module _ {X : Type 0} (p : X → Bool) where
  abbrev pub one : X → ℕ
  one x = cond (p x) 1 0

  pub count-cons : (x : X) (xs : List X) → count_by p (x ∷ xs) ≡ one x + count_by p xs
  count-cons x xs = sum_by-cons one x xs

  pub count-append : (xs ys : List X) → count_by p (xs ++ ys) ≡ count_by p xs + count_by p ys
  count-append xs ys = sum_by-append one xs ys

  pub count-permutation : (xs ys : List X) → IsPermutation xs ys → count_by p ys ≡ count_by p xs
  count-permutation xs ys h = sum_by-IsPermutation one xs ys h

  pub count-yes : (x : X) (xs : List X) → p x ≡ true → count_by p (x ∷ xs) ≡ 1 + count_by p xs
  count-yes x xs h =
      let here : one x ≡ 1 = rw h refl in
      omega (arith, here, count-cons x xs)

  pub count-no : (x : X) (xs : List X) → p x ≡ false → count_by p (x ∷ xs) ≡ count_by p xs
  count-no x xs h =
      let here : one x ≡ 0 = rw h refl in
      omega (arith, here, count-cons x xs)

  pub count-more : (x : X) (xs : List X) → count_by p xs ≤ count_by p (x ∷ xs)
  count-more x xs = omega (arith, count-cons x xs)

  -- in a list of which all pass, or none does
  pub count-all : (xs : List X) → AllByRecursion (λ x. p x ≡ true) xs → count_by p xs ≡ length xs
  count-all [] h = refl
  count-all (x ∷ xs) (here, more) = omega (arith, count-yes x xs here, count-all xs more)

  pub count-none : (xs : List X) → AllByRecursion (λ x. p x ≡ false) xs → count_by p xs ≡ 0
  count-none [] h = refl
  count-none (x ∷ xs) (here, more) = count-no x xs here ∙ count-none xs more

  pub filter-yes : (x : X) (xs : List X) → p x ≡ true → filter p (x ∷ xs) ≡ x ∷ filter p xs
  filter-yes x xs h = rw h refl

  pub filter-no : (x : X) (xs : List X) → p x ≡ false → filter p (x ∷ xs) ≡ filter p xs
  filter-no x xs h = rw h refl

  pub filter-all : (xs : List X) → AllByRecursion (λ x. p x ≡ true) xs → filter p xs ≡ xs
  filter-all [] h = refl
  filter-all (x ∷ xs) (here, more) = rw here (ap (λ rest. x ∷ rest) (filter-all xs more))

  pub filter-none : (xs : List X) → AllByRecursion (λ x. p x ≡ false) xs → filter p xs ≡ []
  filter-none [] h = refl
  filter-none (x ∷ xs) (here, more) = rw here (filter-none xs more)

  -- two tests that agree on the elements
  pub count-alike : (q : X → Bool) (xs : List X) → AllByRecursion (λ x. p x ≡ q x) xs → count_by p xs ≡ sum_by (λ x. cond (q x) 1 0) xs
  count-alike q [] h = refl
  count-alike q (x ∷ xs) (here, more) =
      let same : one x ≡ cond (q x) 1 0 = ap (λ b. cond b 1 0) here in
      omega (arith, count-cons x xs, sum_by-cons (λ y. cond (q y) 1 0) x xs, same, count-alike q xs more)

  one-few : (b : Bool) → cond b 1 0 ≤ 1
  one-few true = omega arith
  one-few false = omega arith

  pub count-few : (xs : List X) → count_by p xs ≤ length xs
  count-few [] = omega arith
  count-few (x ∷ xs) = omega (arith, count-cons x xs, one-few (p x), count-few xs)

  -- where one fails, fewer than all pass
  pub count-miss : (xs : List X) (i : ℕ) (d : X) → i < length xs → p (get_or xs i d) ≡ false → count_by p xs < length xs
  count-miss [] i d h miss = omega (arith, h)
  count-miss (x ∷ xs) zero d h miss = omega (arith, count-no x xs miss, count-few xs)
  count-miss (x ∷ xs) (suc i) d h miss = omega (arith, count-cons x xs, one-few (p x), count-miss xs i d (omega (arith, h)) miss)

  -- where one passes, one passes at least
  pub count-hit : (xs : List X) (i : ℕ) (d : X) → i < length xs → p (get_or xs i d) ≡ true → 1 ≤ count_by p xs
  count-hit xs i d h hit =
      let here : one (get_or xs i d) ≡ 1 = rw hit refl in
      omega (arith, here, get_or-le-sum_by one xs i d h)

-- a test of what a function gives
count-map-by : {X Y : Type 0} (q : Y → Bool) (f : X → Y) (b : Bool) (x : X) (xs : List X) → q (f x) ≡ b → count_by q (map f xs) ≡ count_by (λ y. q (f y)) xs → count_by q (f x ∷ map f xs) ≡ count_by (λ y. q (f y)) (x ∷ xs)
count-map-by q f true x xs h more = omega (arith, count-yes q (f x) (map f xs) h, more, count-yes (λ y. q (f y)) x xs h)
count-map-by q f false x xs h more = omega (arith, count-no q (f x) (map f xs) h, more, count-no (λ y. q (f y)) x xs h)

pub count-map : {X Y : Type 0} (q : Y → Bool) (f : X → Y) (xs : List X) → count_by q (map f xs) ≡ count_by (λ y. q (f y)) xs
count-map q f [] = refl
count-map q f (x ∷ xs) = count-map-by q f (q (f x)) x xs refl (count-map q f xs)

-- of what passes another test
both : {X : Type 0} (p q : X → Bool) (b c : Bool) (x : X) → p x ≡ b → q x ≡ c → (p x && q x) ≡ (b && c)
both p q b c x h k = rw (h, k) refl

count-filter-by : {X : Type 0} (p q : X → Bool) (b c : Bool) (x : X) (xs : List X) → p x ≡ b → q x ≡ c → count_by q (filter p xs) ≡ count_by (λ y. p y && q y) xs → count_by q (filter p (x ∷ xs)) ≡ count_by (λ y. p y && q y) (x ∷ xs)
count-filter-by p q true true x xs h k more = ap (count_by q) (filter-yes p x xs h) ∙ omega (arith, count-yes q x (filter p xs) k, more, count-yes (λ y. p y && q y) x xs (both p q true true x h k))
count-filter-by p q true false x xs h k more = ap (count_by q) (filter-yes p x xs h) ∙ omega (arith, count-no q x (filter p xs) k, more, count-no (λ y. p y && q y) x xs (both p q true false x h k))
count-filter-by p q false c x xs h k more = ap (count_by q) (filter-no p x xs h) ∙ omega (arith, more, count-no (λ y. p y && q y) x xs (both p q false c x h k))

pub count-filter : {X : Type 0} (p q : X → Bool) (xs : List X) → count_by q (filter p xs) ≡ count_by (λ y. p y && q y) xs
count-filter p q [] = refl
count-filter p q (x ∷ xs) = count-filter-by p q (p x) (q x) x xs refl refl (count-filter p q xs)

-- a sorted list is sorted behind its head
pub sorted-tail : {X : Type 0} (lt : X → X → Bool) (x : X) (xs : List X) → IsSortedBy lt (x ∷ xs) → IsSortedBy lt xs
sorted-tail lt x xs sorted k d a b =
    subst (λ (j : ℕ). lt (get_or (x ∷ xs) j d) (get_or xs k d) ≡ false) {x = suc k + 1} {y = suc (k + 1)} (omega arith) (sorted (suc k) d (omega arith) (omega (arith, b)))
