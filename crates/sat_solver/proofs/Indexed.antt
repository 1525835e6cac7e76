-- Lists and counts of clauses, as clauses are added and literals are made true and open.
use Rattle.sat_solver.proofs.Common.{◌≡◌, ◌≢◌, ℕ, zero, suc, ◌+◌, ◌^◌, ◌<◌, ◌≤◌, Bool, true, false, cond, List, [], ◌∷◌, ◌++◌, length, get_or, replicate, ℤ, neg_ℤ, None, refl, ap, sym, ◌∙◌, inl, inr}
use Rattle.sat_solver.proofs.Common.{◌⊎◌, subst, nat_eq, arith, All, count_by, eqb_tells, leb_tells, length_push, get_or_append_left, get_or_push, All-push, sum_by-cons, sum_by-append}
use Rattle.sat_solver.proofs.Common.{get_or-le-sum_by, variable, Known, with_true, Counts, place_of, times, numbered, list_of, IsAdded, AreHolders, valued, AreCounted, IsIndexed, CanCount, AreRaised}
use Rattle.std.proofs.Math.ListN.{get_or-eq_default}
use Rattle.sat_solver.proofs.Listed.{self-count}
use Rattle.sat_solver.proofs.Valued.{valued-true, valued-false, valued-le}

-- Clauses by number.

pub numbered-same : (clauses : List (List ℤ)) (clause : List ℤ) (n : ℕ) → n ≡ length clauses + 1 → numbered (clauses ++ clause ∷ []) n ≡ clause
numbered-same clauses clause zero e = absurd (omega (arith, e))
numbered-same clauses clause (suc k) e = get_or_push clauses clause [] k (omega (arith, e))

pub numbered-other : (clauses : List (List ℤ)) (clause : List ℤ) (n : ℕ) → n ≢ length clauses + 1 → numbered (clauses ++ clause ∷ []) n ≡ numbered clauses n
numbered-other clauses clause zero h = refl
numbered-other clauses clause (suc k) h = elim (leb_tells (length clauses) k) [
  | inl past ↦
      let long : length (clauses ++ clause ∷ []) ≤ k = (let e : length (clauses ++ clause ∷ []) ≡ length clauses + 1 = length_push clauses clause in omega (arith, e, h, past.1)) in
      get_or-eq_default (clauses ++ clause ∷ []) [] long ∙ sym (get_or-eq_default clauses [] past.1)
  | inr within ↦ get_or_append_left clauses (clause ∷ []) [] k within.1
]

pub numbered-all : (P : List ℤ → Type 0) (clauses : List (List ℤ)) → All P clauses → P [] → (n : ℕ) → P (numbered clauses n)
numbered-all P clauses all none_ zero = none_
numbered-all P clauses all none_ (suc k) = elim (leb_tells (length clauses) k) [
  | inl past ↦ subst P (sym (get_or-eq_default clauses [] past.1)) none_
  | inr within ↦ all k [] within.1
]

times-number : (l : ℤ) (clauses : List (List ℤ)) (n : ℕ) → 0 < times l (numbered clauses n) → (0 < n) × (n < length clauses + 1)
times-number l clauses zero h = absurd (let none_ : times l [] ≡ 0 = refl in omega (arith, h, none_))
times-number l clauses (suc k) h = elim (leb_tells (length clauses) k) [
  | inl past ↦ absurd (let none_ : times l (get_or clauses k []) ≡ 0 = ap (times l) (get_or-eq_default clauses [] past.1) in omega (arith, h, none_))
  | inr within ↦ (omega arith, omega (arith, within.1))
]

-- What stands in a list.

count-some : (xs : List ℕ) (k d : ℕ) → k < length xs → 1 ≤ count_by (nat_eq (get_or xs k d)) xs
count-some xs k d h =
    let one : cond {A = ℕ} (nat_eq (get_or xs k d) (get_or xs k d)) 1 0 ≡ 1 = self-count (get_or xs k d) in
    let least : cond {A = ℕ} (nat_eq (get_or xs k d) (get_or xs k d)) 1 0 ≤ count_by (nat_eq (get_or xs k d)) xs = get_or-le-sum_by (λ (m : ℕ). cond (nat_eq (get_or xs k d) m) 1 0) xs k d h in
    omega (arith, one, least)

count-or : (n : ℕ) (xs : List ℕ) → (count_by (nat_eq n) xs ≡ 0) ⊎ ((k : ℕ) × (k < length xs) × ((d : ℕ) → get_or xs k d ≡ n))
count-or n [] = inl refl
count-or n (x ∷ xs) = elim (eqb_tells n x) [
  | inl same ↦ inr (0, omega arith, λ d. sym same.1)
  | inr other ↦ elim (count-or n xs) [
    | inl none_ ↦
        let more : count_by (nat_eq n) (x ∷ xs) ≡ cond (nat_eq n x) 1 0 + count_by (nat_eq n) xs = sum_by-cons (λ (m : ℕ). cond (nat_eq n m) 1 0) x xs in
        let here : cond {A = ℕ} (nat_eq n x) 1 0 ≡ 0 = ap (λ (b : Bool). cond b 1 0) other.0 in
        inl (omega (arith, more, here, none_))
    | inr some ↦ inr (suc some.0, omega (arith, some.1), some.2)
  ]
]

-- a clause in the list of a literal is there, and holds the literal
pub held : (clauses : List (List ℤ)) (lists : List (List ℕ)) (l : ℤ) (k d : ℕ) → AreHolders clauses lists → k < length (list_of lists l) → (0 < get_or (list_of lists l) k d) × (get_or (list_of lists l) k d < length clauses + 1)
held clauses lists l k d holders h = times-number l clauses (get_or (list_of lists l) k d) (omega (arith, count-some (list_of lists l) k d h, holders l (get_or (list_of lists l) k d)))

-- it holds the literal
pub held-times : (clauses : List (List ℤ)) (lists : List (List ℕ)) (l : ℤ) (k d : ℕ) → AreHolders clauses lists → k < length (list_of lists l) → 0 < times l (numbered clauses (get_or (list_of lists l) k d))
held-times clauses lists l k d holders h = omega (arith, count-some (list_of lists l) k d h, holders l (get_or (list_of lists l) k d))

-- a clause that isn't in the list of a literal doesn't hold it
pub held-or : (clauses : List (List ℤ)) (lists : List (List ℕ)) (l : ℤ) (n : ℕ) → AreHolders clauses lists → (times l (numbered clauses n) ≡ 0) ⊎ ((k : ℕ) × (k < length (list_of lists l)) × ((d : ℕ) → get_or (list_of lists l) k d ≡ n))
held-or clauses lists l n holders = elim (count-or n (list_of lists l)) [ inl none_ ↦ inl (sym (holders l n) ∙ none_) | inr some ↦ inr some ]

-- One more clause.

count-replicate : (n m t : ℕ) → count_by (nat_eq n) (replicate t m) ≡ cond (nat_eq n m) t 0
count-replicate n m t = elim (eqb_tells n m) [ inl same ↦ rw same.0 (all-same same.0 t) | inr other ↦ rw other.0 (none-same other.0 t) ] where
  all-same : nat_eq n m ≡ true → (t : ℕ) → count_by (nat_eq n) (replicate t m) ≡ t
  all-same e zero = refl
  all-same e (suc t) =
      let more : count_by (nat_eq n) (m ∷ replicate t m) ≡ cond (nat_eq n m) 1 0 + count_by (nat_eq n) (replicate t m) = sum_by-cons (λ (k : ℕ). cond (nat_eq n k) 1 0) m (replicate t m) in
      let here : cond {A = ℕ} (nat_eq n m) 1 0 ≡ 1 = ap (λ (b : Bool). cond b 1 0) e in
      let rest : count_by (nat_eq n) (replicate t m) ≡ t = all-same e t in
      omega (arith, more, here, rest)

  none-same : nat_eq n m ≡ false → (t : ℕ) → count_by (nat_eq n) (replicate t m) ≡ 0
  none-same e zero = refl
  none-same e (suc t) =
      let more : count_by (nat_eq n) (m ∷ replicate t m) ≡ cond (nat_eq n m) 1 0 + count_by (nat_eq n) (replicate t m) = sum_by-cons (λ (k : ℕ). cond (nat_eq n k) 1 0) m (replicate t m) in
      let here : cond {A = ℕ} (nat_eq n m) 1 0 ≡ 0 = ap (λ (b : Bool). cond b 1 0) e in
      let rest : count_by (nat_eq n) (replicate t m) ≡ 0 = none-same e t in
      omega (arith, more, here, rest)

holders-added : (clauses : List (List ℤ)) (clause : List ℤ) (old new : List (List ℕ)) → AreHolders clauses old → IsAdded (length clauses + 1) clause old new → AreHolders (clauses ++ clause ∷ []) new
holders-added clauses clause old new holders added l n =
    let t : ℕ = times l clause in
    let whole : count_by (nat_eq n) (list_of new l) ≡ count_by (nat_eq n) (list_of old l) + count_by (nat_eq n) (replicate (times l clause) (length clauses + 1)) = ap (count_by (nat_eq n)) (added.lists l) ∙ sum_by-append (λ (m : ℕ). cond (nat_eq n m) 1 0) (list_of old l) (replicate (times l clause) (length clauses + 1)) in
    let last : count_by (nat_eq n) (replicate (times l clause) (length clauses + 1)) ≡ cond (nat_eq n (length clauses + 1)) (times l clause) 0 = count-replicate n (length clauses + 1) (times l clause) in
    elim (eqb_tells n (length clauses + 1)) [
      | inl same ↦
          let all : cond (nat_eq n (length clauses + 1)) (times l clause) 0 ≡ times l clause = ap (λ (b : Bool). cond b (times l clause) 0) same.0 in
          let before : times l (numbered clauses n) ≡ 0 = elim (leb_tells (times l (numbered clauses n)) 0) [ inl none_ ↦ omega (arith, none_.1) | inr some ↦ absurd (let there = times-number l clauses n some.1 in omega (arith, there.1, same.1)) ] in
          let here : times l (numbered (clauses ++ clause ∷ []) n) ≡ times l clause = ap (times l) (numbered-same clauses clause n same.1) in
          omega (arith, whole, last, all, before, here, holders l n)
      | inr other ↦
          let none_ : cond (nat_eq n (length clauses + 1)) (times l clause) 0 ≡ 0 = ap (λ (b : Bool). cond b (times l clause) 0) other.0 in
          let here : times l (numbered (clauses ++ clause ∷ []) n) ≡ times l (numbered clauses n) = ap (times l) (numbered-other clauses clause n other.1) in
          omega (arith, whole, last, none_, here, holders l n)
    ]

counted-added : (clauses : List (List ℤ)) (clause : List ℤ) (known : Known) (b : Bool) (table : List ℕ) → AreCounted clauses known b table → AreCounted (clauses ++ clause ∷ []) known b (table ++ valued known b clause ∷ [])
counted-added clauses clause known b table counted = record {
  len = length_push table (valued known b clause) ∙ ap (λ (n : ℕ). n + 1) (counted.len ∙ sym (length_push clauses clause));
  each = λ n. elim (eqb_tells n (length clauses + 1)) [
    | inl same ↦ get_or_push table (valued known b clause) 0 n (counted.len ∙ sym same.1) ∙ ap (valued known b) (sym (numbered-same clauses clause n same.1))
    | inr other ↦ before n other.1 ∙ counted.each n ∙ ap (valued known b) (sym (numbered-other clauses clause n other.1))
  ];
} where
  before : (n : ℕ) → n ≢ length clauses + 1 → get_or (table ++ valued known b clause ∷ []) n 0 ≡ get_or table n 0
  before n h = elim (leb_tells (length table) n) [
    | inl past ↦
        let long : length (table ++ valued known b clause ∷ []) ≤ n = (let e : length (table ++ valued known b clause ∷ []) ≡ length table + 1 = length_push table (valued known b clause) in omega (arith, e, h, past.1, counted.len)) in
        get_or-eq_default (table ++ valued known b clause ∷ []) 0 long ∙ sym (get_or-eq_default table 0 past.1)
    | inr within ↦ get_or_append_left table (valued known b clause ∷ []) 0 n within.1
  ]

pub indexed-added : (clauses : List (List ℤ)) (clause : List ℤ) (known : Known) (old new : List (List ℕ)) (falses trues : List ℕ) → IsIndexed clauses known old falses trues → All (λ l. 0 < variable l) clause → length clause < 2 ^ 32 → IsAdded (length clauses + 1) clause old new → IsIndexed (clauses ++ clause ∷ []) known new (falses ++ valued known false clause ∷ []) (trues ++ valued known true clause ∷ [])
indexed-added clauses clause known old new falses trues indexed positive short added = record {
  holders = holders-added clauses clause old new indexed.holders added;
  false_counts = counted-added clauses clause known false falses indexed.false_counts;
  true_counts = counted-added clauses clause known true trues indexed.true_counts;
  positive = All-push (All (λ l. 0 < variable l)) clauses clause indexed.positive positive;
  short = All-push (λ c. length c < 2 ^ 32) clauses clause indexed.short short;
}

-- One more literal is true, or open again.

module _ (clauses : List (List ℤ)) (known : Known) (m : ℤ) (open_ : known (variable m) ≡ None) (lists : List (List ℕ)) where
  module _ (holders : AreHolders clauses lists) where
    more-true : (n : ℕ) → valued (with_true known m) true (numbered clauses n) ≡ valued known true (numbered clauses n) + count_by (nat_eq n) (list_of lists m)
    more-true n = valued-true known m open_ (numbered clauses n) ∙ ap (λ (t : ℕ). valued known true (numbered clauses n) + t) (sym (holders m n))

    more-false : All (All (λ l. 0 < variable l)) clauses → (n : ℕ) → valued (with_true known m) false (numbered clauses n) ≡ valued known false (numbered clauses n) + count_by (nat_eq n) (list_of lists (neg_ℤ m))
    more-false positive n = valued-false known m open_ (numbered clauses n) (numbered-all (All (λ l. 0 < variable l)) clauses positive (λ k d h. absurd (omega (arith, h))) n) ∙ ap (λ (t : ℕ). valued known false (numbered clauses n) + t) (sym (holders (neg_ℤ m) n))

  pub indexed-raised : (old new : Counts) → IsIndexed clauses known lists old.falses.items old.trues.items → AreRaised m lists old new → IsIndexed clauses (with_true known m) lists new.falses.items new.trues.items
  indexed-raised old new indexed raised = record {
    holders = indexed.holders;
    false_counts = record { len = raised.falses_len ∙ indexed.false_counts.len; each = λ n. omega (arith, raised.falses n, indexed.false_counts.each n, more-false indexed.holders indexed.positive n) };
    true_counts = record { len = raised.trues_len ∙ indexed.true_counts.len; each = λ n. omega (arith, raised.trues n, indexed.true_counts.each n, more-true indexed.holders n) };
    positive = indexed.positive;
    short = indexed.short;
  }

  -- the counts are raised back to the old ones
  pub indexed-lowered : (old new : Counts) → IsIndexed clauses (with_true known m) lists old.falses.items old.trues.items → AreRaised m lists new old → IsIndexed clauses known lists new.falses.items new.trues.items
  indexed-lowered old new indexed raised = record {
    holders = indexed.holders;
    false_counts = record { len = sym raised.falses_len ∙ indexed.false_counts.len; each = λ n. omega (arith, raised.falses n, indexed.false_counts.each n, more-false indexed.holders indexed.positive n) };
    true_counts = record { len = sym raised.trues_len ∙ indexed.true_counts.len; each = λ n. omega (arith, raised.trues n, indexed.true_counts.each n, more-true indexed.holders n) };
    positive = indexed.positive;
    short = indexed.short;
  }

  short-numbered : All (λ c. length c < 2 ^ 32) clauses → (n : ℕ) → length (numbered clauses n) < 2 ^ 32
  short-numbered short n = numbered-all (λ c. length c < 2 ^ 32) clauses short (omega arith) n

  pub can-count : (counts : Counts) → IsIndexed clauses known lists counts.falses.items counts.trues.items → place_of m < length lists → place_of (neg_ℤ m) < length lists → CanCount m lists counts
  can-count counts indexed here against = record {
    place = here;
    against = against;
    falses_within = λ k d h. omega (arith, held clauses lists (neg_ℤ m) k d indexed.holders h, indexed.false_counts.len);
    falses_room = λ n. omega (arith, indexed.false_counts.each n, more-false indexed.holders indexed.positive n, valued-le (with_true known m) false (numbered clauses n), short-numbered indexed.short n);
    trues_within = λ k d h. omega (arith, held clauses lists m k d indexed.holders h, indexed.true_counts.len);
    trues_room = λ n. omega (arith, indexed.true_counts.each n, more-true indexed.holders n, valued-le (with_true known m) true (numbered clauses n), short-numbered indexed.short n);
  }

  -- where the literal is true, its entries can be counted down
  pub can-lower : (counts : Counts) → IsIndexed clauses (with_true known m) lists counts.falses.items counts.trues.items → ((n : ℕ) → count_by (nat_eq n) (list_of lists (neg_ℤ m)) ≤ get_or counts.falses.items n 0) × ((n : ℕ) → count_by (nat_eq n) (list_of lists m) ≤ get_or counts.trues.items n 0)
  can-lower counts indexed = (λ n. omega (arith, indexed.false_counts.each n, more-false indexed.holders indexed.positive n), λ n. omega (arith, indexed.true_counts.each n, more-true indexed.holders n))
