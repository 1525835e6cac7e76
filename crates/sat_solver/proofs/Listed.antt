-- Lists of occurrences: what stands in them, and what counting through them gives.
use Rattle.sat_solver.proofs.Common.{◌≡◌, ℕ, zero, suc, ◌+◌, ◌-◌, ◌*◌, ◌^◌, ◌<◌, ◌≤◌, Bool, true, false, cond, List, [], ◌∷◌, ◌++◌, length, take, get_or, set, replicate, ℤ, pos, negsuc, neg_ℤ, refl}
use Rattle.sat_solver.proofs.Common.{ap, sym, ◌∙◌, inl, inr, nat_eq, arith, count_by, eqb_tells, length-set, get_or-set_same, get_or-set_other, append-nil, append_assoc, take-append-le, take_all}
use Rattle.sat_solver.proofs.Common.{take-take, length-take-le, replicate-append-replicate, length-append, length-replicate, sum_by_more, sum_by-take-le, variable, place_of, is_literal, times}
use Rattle.sat_solver.proofs.Common.{list_of, IsAdded}

-- the place of a literal's list is within the table where its variable is
pub place-within : (l : ℤ) (limit count : ℕ) → variable l < limit → count + 1 ≡ 2 * limit → place_of l < count
place-within (pos n) limit count h e = omega (arith, h, e)
place-within (negsuc n) limit count h e = omega (arith, h, e)

pub variable-neg : (l : ℤ) → variable (neg_ℤ l) ≡ variable l
variable-neg (pos zero) = refl
variable-neg (pos (suc n)) = refl
variable-neg (negsuc n) = refl

times-more : (l : ℤ) (clause : List ℤ) (i : ℕ) → i < length clause → times l (take (i + 1) clause) ≡ times l (take i clause) + cond (is_literal l (get_or clause i (pos 0))) 1 0
times-more l clause i h = sum_by_more (λ (k : ℤ). cond (is_literal l k) 1 0) clause i (pos 0) h

times-same : (l : ℤ) (clause : List ℤ) (i : ℕ) → i < length clause → is_literal l (get_or clause i (pos 0)) ≡ true → times l (take (i + 1) clause) ≡ times l (take i clause) + 1
times-same l clause i h e =
    let f : Bool → ℕ = λ b. cond b 1 0 in
    let one : f (is_literal l (get_or clause i (pos 0))) ≡ 1 = ap f e in
    let more : times l (take (i + 1) clause) ≡ times l (take i clause) + f (is_literal l (get_or clause i (pos 0))) = times-more l clause i h in
    omega (arith, more, one)

times-other : (l : ℤ) (clause : List ℤ) (i : ℕ) → i < length clause → is_literal l (get_or clause i (pos 0)) ≡ false → times l (take (i + 1) clause) ≡ times l (take i clause)
times-other l clause i h e =
    let f : Bool → ℕ = λ b. cond b 1 0 in
    let none_ : f (is_literal l (get_or clause i (pos 0))) ≡ 0 = ap f e in
    let more : times l (take (i + 1) clause) ≡ times l (take i clause) + f (is_literal l (get_or clause i (pos 0))) = times-more l clause i h in
    omega (arith, more, none_)

-- Counting up and down by a list.

pub self-count : (n : ℕ) → cond {A = ℕ} (nat_eq n n) 1 0 ≡ 1
self-count n = elim (eqb_tells n n) [ inl same ↦ rw same.0 refl | inr other ↦ absurd (other.1 refl) ]

pub raised-fits : (before now list : List ℕ) (i : ℕ) → i < length list → get_or now (get_or list i 0) 0 ≡ get_or before (get_or list i 0) 0 + count_by (nat_eq (get_or list i 0)) (take i list) → get_or before (get_or list i 0) 0 + count_by (nat_eq (get_or list i 0)) list < 2 ^ 32 → get_or now (get_or list i 0) 0 + 1 < 2 ^ 32
raised-fits before now list i h e room =
    let n : ℕ = get_or list i 0 in
    let f : ℕ → ℕ = λ k. cond (nat_eq (get_or list i 0) k) 1 0 in
    let more : count_by (nat_eq (get_or list i 0)) (take (i + 1) list) ≡ count_by (nat_eq (get_or list i 0)) (take i list) + f (get_or list i 0) = sum_by_more f list i 0 h in
    let one : f (get_or list i 0) ≡ 1 = self-count (get_or list i 0) in
    let part : count_by (nat_eq (get_or list i 0)) (take (i + 1) list) ≤ count_by (nat_eq (get_or list i 0)) list = sum_by-take-le f list (i + 1) in
    omega (arith, more, one, part, e, room)

pub lowered-fits : (before now list : List ℕ) (i : ℕ) → i < length list → get_or now (get_or list i 0) 0 + count_by (nat_eq (get_or list i 0)) (take i list) ≡ get_or before (get_or list i 0) 0 → count_by (nat_eq (get_or list i 0)) list ≤ get_or before (get_or list i 0) 0 → 1 ≤ get_or now (get_or list i 0) 0
lowered-fits before now list i h e room =
    let f : ℕ → ℕ = λ k. cond (nat_eq (get_or list i 0) k) 1 0 in
    let more : count_by (nat_eq (get_or list i 0)) (take (i + 1) list) ≡ count_by (nat_eq (get_or list i 0)) (take i list) + f (get_or list i 0) = sum_by_more f list i 0 h in
    let one : f (get_or list i 0) ≡ 1 = self-count (get_or list i 0) in
    let part : count_by (nat_eq (get_or list i 0)) (take (i + 1) list) ≤ count_by (nat_eq (get_or list i 0)) list = sum_by-take-le f list (i + 1) in
    omega (arith, more, one, part, e, room)

-- a number that isn't 0 stands within the table
pub stands-within : (table : List ℕ) (n : ℕ) → 1 ≤ get_or table n 0 → n < length table
stands-within [] n h = absurd (omega (arith, h))
stands-within (x ∷ xs) zero h = omega arith
stands-within (x ∷ xs) (suc n) h = omega (arith, stands-within xs n h)

-- Adding a clause.

replicate-push : (t n : ℕ) → replicate t n ++ n ∷ [] ≡ replicate (t + 1) n
replicate-push t n = replicate-append-replicate t 1 n

pub added-more : (n : ℕ) (clause : List ℤ) (i : ℕ) (old now : List (List ℕ)) → i < length clause → place_of (get_or clause i (pos 0)) < length now → IsAdded n (take i clause) old now → IsAdded n (take (i + 1) clause) old (set now (place_of (get_or clause i (pos 0))) (get_or now (place_of (get_or clause i (pos 0))) [] ++ n ∷ []))
added-more n clause i old now h inside added = record {
  len = length-set now (place_of (get_or clause i (pos 0))) (get_or now (place_of (get_or clause i (pos 0))) [] ++ n ∷ []) ∙ added.len;
  lists = at;
} where
  at : (k : ℤ) → list_of (set now (place_of (get_or clause i (pos 0))) (get_or now (place_of (get_or clause i (pos 0))) [] ++ n ∷ [])) k ≡ list_of old k ++ replicate (times k (take (i + 1) clause)) n
  at k =
      let row : List ℕ = get_or now (place_of (get_or clause i (pos 0))) [] ++ n ∷ [] in
      elim (eqb_tells (place_of k) (place_of (get_or clause i (pos 0)))) [
        | inl same ↦
            let count : times k (take (i + 1) clause) ≡ times k (take i clause) + 1 = times-same k clause i h same.0 in
            let before : get_or now (place_of (get_or clause i (pos 0))) [] ≡ list_of old k ++ replicate (times k (take i clause)) n = ap (λ (p : ℕ). get_or now p []) (sym same.1) ∙ added.lists k in
            ap (λ (p : ℕ). get_or (set now (place_of (get_or clause i (pos 0))) (get_or now (place_of (get_or clause i (pos 0))) [] ++ n ∷ [])) p []) same.1
            ∙ get_or-set_same now (place_of (get_or clause i (pos 0))) (get_or now (place_of (get_or clause i (pos 0))) [] ++ n ∷ []) [] inside
            ∙ ap (λ (xs : List ℕ). xs ++ n ∷ []) before
            ∙ append_assoc (list_of old k) (replicate (times k (take i clause)) n) (n ∷ [])
            ∙ ap (λ (xs : List ℕ). list_of old k ++ xs) (replicate-push (times k (take i clause)) n ∙ ap (λ (t : ℕ). replicate t n) (sym count))
        | inr other ↦
            let count : times k (take (i + 1) clause) ≡ times k (take i clause) = times-other k clause i h other.0 in
            get_or-set_other now (place_of (get_or clause i (pos 0))) (place_of k) (get_or now (place_of (get_or clause i (pos 0))) [] ++ n ∷ []) [] other.1
            ∙ added.lists k ∙ ap (λ (t : ℕ). list_of old k ++ replicate t n) (sym count)
      ]

-- Taking it out again.

-- from the list of each literal the last entries are gone, so many as the clause holds the literal
abbrev pub IsDropped : List ℤ → List (List ℕ) → List (List ℕ) → Type 0
IsDropped clause old new = (k : ℤ) → list_of new k ≡ take (length (list_of old k) - times k clause) (list_of old k)

pub dropped-more : (clause : List ℤ) (i : ℕ) (old now : List (List ℕ)) → i < length clause → place_of (get_or clause i (pos 0)) < length now → IsDropped (take i clause) old now → IsDropped (take (i + 1) clause) old (set now (place_of (get_or clause i (pos 0))) (take (length (get_or now (place_of (get_or clause i (pos 0))) []) - 1) (get_or now (place_of (get_or clause i (pos 0))) [])))
dropped-more clause i old now h inside dropped k =
    let row : List ℕ = get_or now (place_of (get_or clause i (pos 0))) [] in
    elim (eqb_tells (place_of k) (place_of (get_or clause i (pos 0)))) [
      | inl same ↦
          let whole : List ℕ = list_of old k in
          let count : times k (take (i + 1) clause) ≡ times k (take i clause) + 1 = times-same k clause i h same.0 in
          let before : get_or now (place_of (get_or clause i (pos 0))) [] ≡ take (length (list_of old k) - times k (take i clause)) (list_of old k) = ap (λ (p : ℕ). get_or now p []) (sym same.1) ∙ dropped k in
          let long : length (get_or now (place_of (get_or clause i (pos 0))) []) ≡ length (list_of old k) - times k (take i clause) = ap (length {A = ℕ}) before ∙ length-take-le (length (list_of old k) - times k (take i clause)) (list_of old k) (omega arith) in
          let less : length (get_or now (place_of (get_or clause i (pos 0))) []) - 1 ≡ length (list_of old k) - times k (take (i + 1) clause) = omega (arith, long, count) in
          ap (λ (p : ℕ). get_or (set now (place_of (get_or clause i (pos 0))) (take (length (get_or now (place_of (get_or clause i (pos 0))) []) - 1) (get_or now (place_of (get_or clause i (pos 0))) []))) p []) same.1
          ∙ get_or-set_same now (place_of (get_or clause i (pos 0))) (take (length (get_or now (place_of (get_or clause i (pos 0))) []) - 1) (get_or now (place_of (get_or clause i (pos 0))) [])) [] inside
          ∙ ap (take (length (get_or now (place_of (get_or clause i (pos 0))) []) - 1)) before
          ∙ take-take (length (get_or now (place_of (get_or clause i (pos 0))) []) - 1) (length (list_of old k) - times k (take i clause)) (list_of old k) (omega (arith, long))
          ∙ ap (λ (m : ℕ). take m (list_of old k)) less
      | inr other ↦
          let count : times k (take (i + 1) clause) ≡ times k (take i clause) = times-other k clause i h other.0 in
          get_or-set_other now (place_of (get_or clause i (pos 0))) (place_of k) (take (length (get_or now (place_of (get_or clause i (pos 0))) []) - 1) (get_or now (place_of (get_or clause i (pos 0))) [])) [] other.1
          ∙ dropped k ∙ ap (λ (t : ℕ). take (length (list_of old k) - t) (list_of old k)) (sym count)
    ]

-- what was added and is taken out leaves what was there
pub added-dropped : (n : ℕ) (clause : List ℤ) (old now new : List (List ℕ)) → IsAdded n clause old now → length new ≡ length now → IsDropped clause now new → IsAdded n [] old new
added-dropped n clause old now new added len dropped = record {
  len = len ∙ added.len;
  lists = λ k.
      let there : list_of now k ≡ list_of old k ++ replicate (times k clause) n = added.lists k in
      let long : length (list_of now k) ≡ length (list_of old k) + times k clause = ap (length {A = ℕ}) there ∙ length-append (list_of old k) (replicate (times k clause) n) ∙ ap (λ (t : ℕ). length (list_of old k) + t) (length-replicate (times k clause) n) in
      let left_ : length (list_of now k) - times k clause ≡ length (list_of old k) = omega (arith, long) in
      dropped k ∙ ap (λ (m : ℕ). take m (list_of now k)) left_ ∙ ap (take (length (list_of old k))) there ∙ take-append-le (length (list_of old k)) (list_of old k) (replicate (times k clause) n) (omega arith) ∙ take_all (length (list_of old k)) (list_of old k) (omega arith) ∙ sym (append-nil (list_of old k));
}
