-- Lemmas that stand in the list of one of their literals.
use Rattle.lrat_checker.proofs.Common.{◌≡◌, ℕ, ◌+◌, ◌-◌, ◌<◌, true, List, [], ◌∷◌, ◌++◌, map, length, take, drop, get_or, set, ℤ, Some, slice_get, refl, ap, sym, ◌∙◌, subst, inl, inr, arith, Result}
use Rattle.lrat_checker.proofs.Common.{Ok, Err, All, Contains, OnErr, eqb_tells, map-set, get_or-map, get_or_append_left, get_or_push, get_or-set_same, get_or-set_other, length-set, length_push}
use Rattle.lrat_checker.proofs.Common.{take-append-le, take_all, take_more, slice_get-get_or, slice_get_within, All-contains, All-from_get_or, Contains-push, Contains-push_cases, Contains-append_left}
use Rattle.lrat_checker.proofs.Common.{Known, none, with_false, IsFalse, place_of, list_at, lists_of, IsGuarded, AreGuarded, moved}
use Rattle.lrat_checker.specs.declared.guards.Guards.{Guards}
use Rattle.lrat_checker.proofs.Finding.{dropped-at}
use Rattle.lrat_checker.proofs.Within.{within-from_false}

-- what stands at a place of a table of lists
pub list-at : {V : Type 0} (items : V → List ℕ) (lists : List V) (k : ℕ) (v : V) → k < length lists → v ≡ get_or lists k v → items v ≡ get_or (map items lists) k []
list-at items lists k v inside e = ap items e ∙ sym (get_or-map items lists k v [] inside)

-- one list was changed
pub list-changed : {V : Type 0} (items : V → List ℕ) (f : List ℕ → List ℕ) (lists : List V) (k p : ℕ) (v w : V) → k < length lists → v ≡ get_or lists k v → k ≡ p → items w ≡ f (items v) → map items (set lists k w) ≡ set (map items lists) p (f (get_or (map items lists) p []))
list-changed items f lists k p v w inside at same changed =
    map-set items lists k w ∙ ap (λ (xs : List ℕ). set (map items lists) k xs) (changed ∙ ap f (list-at items lists k v inside at)) ∙ ap (λ (q : ℕ). set (map items lists) q (f (get_or (map items lists) q []))) same

-- what holds is so of an error too
pub on-err : {T E : Type 0} (P : Type 0) (r : Result T E) → P → OnErr r P
on-err P (Ok x) h = tt
on-err P (Err e) h = h

-- a list without its last number
front : (xs : List ℕ) (n : ℕ) → take (length (xs ++ n ∷ []) - 1) (xs ++ n ∷ []) ≡ xs
front xs n =
    let long : length (xs ++ n ∷ []) ≡ length xs + 1 = length_push xs n in
    let less : length (xs ++ n ∷ []) - 1 ≡ length xs = omega (arith, long) in
    rw less (take-append-le (length xs) xs (n ∷ []) (omega arith) ∙ take_all (length xs) xs (omega arith))

-- a list, by its last number
pub last-is : (xs : List ℕ) (n : ℕ) → slice_get xs (length xs - 1) ≡ Some n → xs ≡ take (length xs - 1) xs ++ n ∷ []
last-is xs n at =
    let within : length xs - 1 < length xs = slice_get_within xs (length xs - 1) n at in
    let got : Some (get_or xs (length xs - 1) 0) ≡ Some n = sym (slice_get-get_or xs (length xs - 1) 0 within) ∙ at in
    let same : get_or xs (length xs - 1) 0 ≡ n = cc in
    let next : length xs - 1 + 1 ≡ length xs = omega (arith, within) in
    let whole : take (length xs - 1 + 1) xs ≡ xs = take_all (length xs - 1 + 1) xs (omega (arith, next)) in
    sym whole ∙ take_more xs (length xs - 1) 0 within ∙ rw same refl

-- a number that was moved, by the two writes
pub moved-by : (old between new : List (List ℕ)) (from to n : ℕ) → (from ≡ to → ⊥) → between ≡ set old to (list_at old to ++ n ∷ []) → new ≡ set between from (take (length (list_at between from) - 1) (list_at between from)) → new ≡ moved old from to n
moved-by old between new from to n apart first second =
    let other : list_at between from ≡ list_at old from = ap (λ (xs : List (List ℕ)). list_at xs from) first ∙ get_or-set_other old to from (list_at old to ++ n ∷ []) [] apart in
    second
    ∙ ap (λ (xs : List (List ℕ)). set xs from (take (length (list_at between from) - 1) (list_at between from))) first
    ∙ ap (λ (ys : List ℕ). set (set old to (list_at old to ++ n ∷ [])) from (take (length ys - 1) ys)) other

-- the lists after a move
moved-from : (lists : List (List ℕ)) (from to n : ℕ) (popped : List ℕ) → from < length lists → list_at lists from ≡ popped ++ n ∷ [] → list_at (moved lists from to n) from ≡ popped
moved-from lists from to n popped h is =
    let here : from < length (set lists to (list_at lists to ++ n ∷ [])) = omega (arith, length-set lists to (list_at lists to ++ n ∷ []), h) in
    get_or-set_same (set lists to (list_at lists to ++ n ∷ [])) from (take (length (list_at lists from) - 1) (list_at lists from)) [] here
    ∙ ap (λ (xs : List ℕ). take (length xs - 1) xs) is ∙ front popped n

moved-to : (lists : List (List ℕ)) (from to n : ℕ) → to < length lists → (to ≡ from → ⊥) → list_at (moved lists from to n) to ≡ list_at lists to ++ n ∷ []
moved-to lists from to n h apart =
    get_or-set_other (set lists to (list_at lists to ++ n ∷ [])) from to (take (length (list_at lists from) - 1) (list_at lists from)) [] apart
    ∙ get_or-set_same lists to (list_at lists to ++ n ∷ []) [] h

moved-other : (lists : List (List ℕ)) (from to n p : ℕ) → (p ≡ from → ⊥) → (p ≡ to → ⊥) → list_at (moved lists from to n) p ≡ list_at lists p
moved-other lists from to n p not_from not_to =
    get_or-set_other (set lists to (list_at lists to ++ n ∷ [])) from p (take (length (list_at lists from) - 1) (list_at lists from)) [] not_from
    ∙ get_or-set_other lists to p (list_at lists to ++ n ∷ []) [] not_to

-- each lemma stays guarded where one of them, the last of its list, goes to the list of one of its literals
pub guarded-moved : (lemmas : List (List ℤ)) (lists : List (List ℕ)) (from n : ℕ) (k : ℤ) (popped : List ℕ) → from < length lists → place_of k < length lists → (place_of k ≡ from → ⊥) → list_at lists from ≡ popped ++ n ∷ [] → Contains (get_or lemmas n []) k → (m : ℕ) → IsGuarded lemmas lists m → IsGuarded lemmas (moved lists from (place_of k) n) m
guarded-moved lemmas lists from n k popped h there apart is own m guard =
    let P : List ℕ → Type 0 = λ xs. Contains xs m in
    elim (eqb_tells (place_of guard.literal) from) [
      | inl same ↦
          let before : Contains (popped ++ n ∷ []) m = subst P (ap (list_at lists) same.1 ∙ is) guard.listed in
          elim (Contains-push_cases popped n m before) [
            | inl left ↦ record { literal = guard.literal; own = guard.own; listed = subst P (sym (ap (list_at (moved lists from (place_of k) n)) same.1 ∙ moved-from lists from (place_of k) n popped h is)) left }
            | inr last ↦
                let Q : ℕ → Type 0 = λ i. IsGuarded lemmas (moved lists from (place_of k) n) i in
                let R : List ℕ → Type 0 = λ xs. Contains xs n in
                subst Q last (record { literal = k; own = own; listed = subst R (sym (moved-to lists from (place_of k) n there apart)) (Contains-push (list_at lists (place_of k)) n) })
          ]
      | inr other ↦ elim (eqb_tells (place_of guard.literal) (place_of k)) [
        | inl same ↦
            let more : Contains (list_at lists (place_of k) ++ n ∷ []) m = Contains-append_left (list_at lists (place_of k)) (n ∷ []) m (subst P (ap (list_at lists) same.1) guard.listed) in
            record { literal = guard.literal; own = guard.own; listed = subst P (sym (ap (list_at (moved lists from (place_of k) n)) same.1 ∙ moved-to lists from (place_of k) n there apart)) more }
        | inr neither ↦ record { literal = guard.literal; own = guard.own; listed = subst P (sym (moved-other lists from (place_of k) n (place_of guard.literal) other.1 neither.1)) guard.listed }
      ]
    ]

-- a number more in one list
kept-push : (lists : List (List ℕ)) (q n p m : ℕ) → q < length lists → Contains (list_at lists p) m → Contains (list_at (set lists q (list_at lists q ++ n ∷ [])) p) m
kept-push lists q n p m there within =
    let P : List ℕ → Type 0 = λ xs. Contains xs m in
    elim (eqb_tells p q) [
      | inl same ↦ subst P (sym (ap (list_at (set lists q (list_at lists q ++ n ∷ []))) same.1 ∙ get_or-set_same lists q (list_at lists q ++ n ∷ []) [] there)) (Contains-append_left (list_at lists q) (n ∷ []) m (subst P (ap (list_at lists) same.1) within))
      | inr other ↦ subst P (sym (get_or-set_other lists q p (list_at lists q ++ n ∷ []) [] other.1)) within
    ]

-- the lemmas stay guarded
pub guarded-kept : (lemmas : List (List ℤ)) (lists : List (List ℕ)) (q n : ℕ) → q < length lists → (m : ℕ) → IsGuarded lemmas lists m → IsGuarded lemmas (set lists q (list_at lists q ++ n ∷ [])) m
guarded-kept lemmas lists q n there m guard = record { literal = guard.literal; own = guard.own; listed = kept-push lists q n (place_of guard.literal) m there guard.listed }

-- one more lemma, which is put into the list of one of its literals
pub guarded-push : (lemmas : List (List ℤ)) (lemma : List ℤ) (lists : List (List ℕ)) (n : ℕ) (k : ℤ) → length lemmas ≡ n → place_of k < length lists → Contains lemma k → ((m : ℕ) → m < length lemmas → IsGuarded lemmas lists m) → (m : ℕ) → m < length (lemmas ++ lemma ∷ []) → IsGuarded (lemmas ++ lemma ∷ []) (set lists (place_of k) (list_at lists (place_of k) ++ n ∷ [])) m
guarded-push lemmas lemma lists n k count there own all m h =
    let long : length (lemmas ++ lemma ∷ []) ≡ length lemmas + 1 = length_push lemmas lemma in
    elim (eqb_tells m n) [
      | inl same ↦
          let P : List ℤ → Type 0 = λ xs. Contains xs k in
          let R : List ℕ → Type 0 = λ xs. Contains xs n in
          let Q : ℕ → Type 0 = λ i. IsGuarded (lemmas ++ lemma ∷ []) (set lists (place_of k) (list_at lists (place_of k) ++ n ∷ [])) i in
          let at : get_or (lemmas ++ lemma ∷ []) n [] ≡ lemma = get_or_push lemmas lemma [] n count in
          subst Q (sym same.1) (record { literal = k; own = subst P (sym at) own; listed = subst R (sym (get_or-set_same lists (place_of k) (list_at lists (place_of k) ++ n ∷ []) [] there)) (Contains-push (list_at lists (place_of k)) n) })
      | inr other ↦
          let less : m < length lemmas = omega (arith, long, h, count, other.1) in
          let at : get_or (lemmas ++ lemma ∷ []) m [] ≡ get_or lemmas m [] = get_or_append_left lemmas (lemma ∷ []) [] m less in
          let S : List ℤ → Type 0 = λ xs. Contains xs (all m less).literal in
          record { literal = (all m less).literal; own = subst S (sym at) (all m less).own; listed = kept-push lists (place_of k) n (place_of (all m less).literal) m there (all m less).listed }
    ]

-- with the lists of a lemma's literals empty, no earlier lemma has literals of it alone
pub none-falsified : (lemmas : List (List ℤ)) (lists : List (List ℕ)) (lemma : List ℤ) (known : Known) → known ≡ with_false none lemma → ((n : ℕ) → n < length lemmas → IsGuarded lemmas lists n) → All (λ l. list_at lists (place_of l) ≡ []) lemma → All (λ earlier. All (IsFalse known) earlier → ⊥) lemmas
none-falsified lemmas lists lemma known is guarded clear = All-from_get_or (λ earlier. All (IsFalse known) earlier → ⊥) lemmas [] (λ n h all.
    let P : Known → Type 0 = λ k. All (IsFalse k) (get_or lemmas n []) in
    let guard = guarded n h in
    let inside : Contains lemma guard.literal = All-contains (Contains lemma) (get_or lemmas n []) guard.literal (within-from_false lemma (get_or lemmas n []) (subst P is all)) guard.own in
    let empty : list_at lists (place_of guard.literal) ≡ [] = All-contains (λ l. list_at lists (place_of l) ≡ []) lemma guard.literal clear inside in
    let Q : List ℕ → Type 0 = λ xs. Contains xs n in
    let never : Contains [] n = subst Q empty guard.listed in
    let wrong : never.0 < 0 = never.1 in
    absurd (omega (arith, wrong)))

-- The same of guards, the lists of which are told by an equation.

pub are-same : (lemmas : List (List ℤ)) (old : Guards) (lists : List (List ℕ)) → lists ≡ lists_of old → AreGuarded lemmas old → old.all ≡ true → (m : ℕ) → m < length lemmas → IsGuarded lemmas lists m
are-same lemmas old lists is guarded all m h =
    let P : List (List ℕ) → Type 0 = λ ls. IsGuarded lemmas ls m in
    subst P (sym is) (guarded all m h)

pub are-kept : (lemmas : List (List ℤ)) (old : Guards) (lists : List (List ℕ)) (p n : ℕ) → lists ≡ set (lists_of old) p (list_at (lists_of old) p ++ n ∷ []) → p < length (lists_of old) → AreGuarded lemmas old → old.all ≡ true → (m : ℕ) → m < length lemmas → IsGuarded lemmas lists m
are-kept lemmas old lists p n is there guarded all m h =
    let P : List (List ℕ) → Type 0 = λ ls. IsGuarded lemmas ls m in
    subst P (sym is) (guarded-kept lemmas (lists_of old) p n there m (guarded all m h))

pub are-pushed : (lemmas : List (List ℤ)) (lemma : List ℤ) (old : Guards) (lists : List (List ℕ)) (n : ℕ) (k : ℤ) → lists ≡ set (lists_of old) (place_of k) (list_at (lists_of old) (place_of k) ++ n ∷ []) → length lemmas ≡ n → place_of k < length (lists_of old) → Contains lemma k → AreGuarded lemmas old → old.all ≡ true → (m : ℕ) → m < length (lemmas ++ lemma ∷ []) → IsGuarded (lemmas ++ lemma ∷ []) lists m
are-pushed lemmas lemma old lists n k is count there own guarded all m h =
    let P : List (List ℕ) → Type 0 = λ ls. IsGuarded (lemmas ++ lemma ∷ []) ls m in
    subst P (sym is) (guarded-push lemmas lemma (lists_of old) n k count there own (guarded all) m h)

pub are-moved : (lemmas : List (List ℤ)) (old : Guards) (lists : List (List ℕ)) (from n : ℕ) (k : ℤ) → lists ≡ moved (lists_of old) from (place_of k) n → from < length (lists_of old) → place_of k < length (lists_of old) → (place_of k ≡ from → ⊥) → slice_get (list_at (lists_of old) from) (length (list_at (lists_of old) from) - 1) ≡ Some n → Contains (get_or lemmas n []) k → AreGuarded lemmas old → old.all ≡ true → (m : ℕ) → m < length lemmas → IsGuarded lemmas lists m
are-moved lemmas old lists from n k is here there apart last own guarded all m h =
    let P : List (List ℕ) → Type 0 = λ ls. IsGuarded lemmas ls m in
    subst P (sym is) (guarded-moved lemmas (lists_of old) from n k (take (length (list_at (lists_of old) from) - 1) (list_at (lists_of old) from)) here there apart (last-is (list_at (lists_of old) from) n last) own m (guarded all m h))

-- a literal of the clause after so many is one of the lemma with this number
pub lemma-holds : (store : List (List ℤ)) (clauses n : ℕ) (clause : List ℤ) (k : ℤ) → slice_get store (clauses + n + 1 - 1) ≡ Some clause → Contains clause k → Contains (get_or (drop clauses store) n []) k
lemma-holds store clauses n clause k found own =
    let next : clauses + n + 1 - 1 ≡ clauses + n = omega arith in
    let here : slice_get store (clauses + n) ≡ Some clause = rw next at found in
    let there = dropped-at store clauses (clauses + n) clause (omega arith) here in
    let same : clauses + n - clauses ≡ n = omega arith in
    let P : List ℤ → Type 0 = λ xs. Contains xs k in
    subst P (sym (rw same at there.1)) own
