-- Lists of numbers that ascend: such a list is known by how often each number stands in it.
use Rattle.mutation_select.proofs.Common.{◌≡◌, ℕ, ◌+◌, ◌≤◌, ◌<◌, Bool, true, false, true≢false, List, [], ◌∷◌, map, refl, sym, ap, ◌∙◌, inl, inr, arith, eqb, filter, count_by, IsSorted, nat_cmp}
use Rattle.mutation_select.proofs.Common.{is_lt, Less, cases_lt, eq-eqb, eqb_tells, nat_cmp_is, Ascends}
use Rattle.mutation_select.proofs.Counts.{count-yes, count-no, count-more, sorted-tail}

abbrev pub times : ℕ → List ℕ → ℕ
times n = count_by (λ x. eqb n x)

pub Ascends-from : (i j : ℕ) (xs : List ℕ) → i ≤ j → Ascends j xs → Ascends i xs
Ascends-from i j [] h a = a
Ascends-from i j (x ∷ xs) h (at, more) = (omega (arith, h, at), more)

filtered-by : {X : Type 0} (p : X → Bool) (f : X → ℕ) (b : Bool) (i : ℕ) (x : X) (xs : List X) → p x ≡ b → i ≤ f x → Ascends (f x + 1) (map f (filter p xs)) → Ascends i (map f (filter p (x ∷ xs)))
filtered-by p f true i x xs h at more = rw h (at, more)
filtered-by p f false i x xs h at more = rw h (Ascends-from i (f x + 1) (map f (filter p xs)) (omega (arith, at)) more)

-- what passes a test ascends, too
pub Ascends-filter : {X : Type 0} (p : X → Bool) (f : X → ℕ) (i : ℕ) (xs : List X) → Ascends i (map f xs) → Ascends i (map f (filter p xs))
Ascends-filter p f i [] a = a
Ascends-filter p f i (x ∷ xs) (at, more) = filtered-by p f (p x) i x xs refl at (Ascends-filter p f (f x + 1) xs more)

-- a number stands in such a list once at most, and not where it is too small

apart : (n x : ℕ) → n < x → eqb n x ≡ false
apart n x h = elim (eqb_tells n x) [ inl (is, same) ↦ absurd (omega (arith, h, same)) | inr (is, differ) ↦ is ]

not-less : (x y : ℕ) → is_lt (nat_cmp y x) ≡ false → x ≤ y
not-less x y h = elim (cases_lt y x) [ inl less ↦ absurd (true≢false (ap is_lt (nat_cmp_is y x Less less) ∙ h)) | inr least ↦ least ]

tail-fewer : (n x : ℕ) (xs : List ℕ) → times n xs ≤ times n (x ∷ xs)
tail-fewer n x xs = omega (arith, count-more (λ y. eqb n y) x xs)

pub times-below : (i n : ℕ) (xs : List ℕ) → Ascends i xs → n < i → times n xs ≡ 0
times-below i n [] a h = refl
times-below i n (x ∷ xs) (at, more) h =
    omega (arith, count-no (λ y. eqb n y) x xs (apart n x (omega (arith, h, at))), times-below (x + 1) n xs more (omega (arith, h, at)))

pub times-once : (i n : ℕ) (xs : List ℕ) → Ascends i xs → times n xs ≤ 1
times-once i n [] a = omega arith
times-once i n (x ∷ xs) (at, more) =
    elim (eqb_tells n x) [
      | inl (is, same) ↦ omega (arith, count-yes (λ y. eqb n y) x xs is, times-below (x + 1) n xs more (omega (arith, same)))
      | inr (is, differ) ↦ omega (arith, count-no (λ y. eqb n y) x xs is, times-once (x + 1) n xs more)
    ]

times-here : (x : ℕ) (xs : List ℕ) → times x (x ∷ xs) ≡ 1 + times x xs
times-here x xs = count-yes (λ y. eqb x y) x xs (eq-eqb x x refl)

-- the heads of two such lists in which each number stands as often
no-less : (x y : ℕ) (xs ys : List ℕ) → Ascends y (y ∷ ys) → ((n : ℕ) → times n (x ∷ xs) ≡ times n (y ∷ ys)) → x < y → ⊥
no-less x y xs ys a h less = absurd (omega (arith, times-here x xs, h x, times-below y x (y ∷ ys) a less))

one-head : (x y : ℕ) (xs ys : List ℕ) → Ascends x (x ∷ xs) → Ascends y (y ∷ ys) → ((n : ℕ) → times n (x ∷ xs) ≡ times n (y ∷ ys)) → x ≡ y
one-head x y xs ys a b h =
    elim (cases_lt x y) [
      | inl less ↦ absurd (no-less x y xs ys b h less)
      | inr not_less ↦ elim (cases_lt y x) [
        | inl less ↦ absurd (no-less y x ys xs a (λ n. sym (h n)) less)
        | inr least ↦ omega (arith, not_less, least)
      ]
    ]

drop-one : (n x : ℕ) (xs ys : List ℕ) → times n (x ∷ xs) ≡ times n (x ∷ ys) → times n xs ≡ times n ys
drop-one n x xs ys h = elim (eqb_tells n x) [
  | inl (is, same) ↦ omega (arith, h, count-yes (λ y. eqb n y) x xs is, count-yes (λ y. eqb n y) x ys is)
  | inr (is, differ) ↦ omega (arith, h, count-no (λ y. eqb n y) x xs is, count-no (λ y. eqb n y) x ys is)
]

-- so such lists are equal
pub same-numbers : (i j : ℕ) (xs ys : List ℕ) → Ascends i xs → Ascends j ys → ((n : ℕ) → times n xs ≡ times n ys) → xs ≡ ys
same-numbers i j [] [] a b h = refl
same-numbers i j [] (y ∷ ys) a b h = absurd (omega (arith, h y, times-here y ys))
same-numbers i j (x ∷ xs) [] a b h = absurd (omega (arith, h x, times-here x xs))
same-numbers i j (x ∷ xs) (y ∷ ys) (at, a) (bt, b) h =
    let head : x ≡ y = one-head x y xs ys (omega arith, a) (omega arith, b) h in
    let tails : (n : ℕ) → times n xs ≡ times n ys = λ n. drop-one n x xs ys (h n ∙ ap (λ z. times n (z ∷ ys)) (sym head)) in
    ap (λ z. z ∷ xs) head ∙ ap (λ rest. y ∷ rest) (same-numbers (x + 1) (y + 1) xs ys a b tails)

-- what a sort gives ascends, where each number stands in it once
next-above : (x y : ℕ) (xs : List ℕ) → is_lt (nat_cmp y x) ≡ false → times x (x ∷ y ∷ xs) ≤ 1 → x + 1 ≤ y
next-above x y xs h few = elim (eqb_tells x y) [
  | inl (is, same) ↦ absurd (omega (arith, few, times-here x (y ∷ xs), count-yes (λ z. eqb x z) y xs is))
  | inr (is, differ) ↦ elim (cases_lt x y) [ inl less ↦ omega (arith, less) | inr not_less ↦ absurd (differ (omega (arith, not_less, not-less x y h))) ]
]

pub sorted-ascends : (i x : ℕ) (xs : List ℕ) → i ≤ x → IsSorted nat_cmp (x ∷ xs) → ((n : ℕ) → times n (x ∷ xs) ≤ 1) → Ascends i (x ∷ xs)
sorted-ascends i x [] h sorted few = (h, tt)
sorted-ascends i x (y ∷ xs) h sorted few =
    (h, sorted-ascends (x + 1) y xs (next-above x y xs (sorted 0 x (omega arith) (omega arith)) (few x)) (sorted-tail (λ a b. is_lt (nat_cmp a b)) x (y ∷ xs) sorted) (λ n. omega (arith, few n, tail-fewer n x (y ∷ xs))))

pub sorted-numbers : (xs ys : List ℕ) → Ascends 0 xs → ((n : ℕ) → times n ys ≡ times n xs) → IsSorted nat_cmp ys → ys ≡ xs
sorted-numbers xs [] a h sorted = same-numbers 0 0 [] xs tt a h
sorted-numbers xs (y ∷ ys) a h sorted = same-numbers 0 0 (y ∷ ys) xs (sorted-ascends 0 y ys (omega arith) sorted (λ n. omega (arith, h n, times-once 0 n xs a))) a h
