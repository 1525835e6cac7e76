-- The tests in slots are of mutations that want a test, each of another one: so there are no more of them than such mutations.
use Rattle.mcy_top.proofs.Common.{◌≡◌, inl, inr, arith, ℕ, zero, suc, ◌+◌, ◌<◌, ◌≤◌, ◌==◌, Bool, true, false, List, [], ◌∷◌, length, Option, None, Some, refl, sym, ap, subst, ◌∙◌, if◌then◌else◌}
use Rattle.mcy_top.proofs.Common.{is_some, eqb_tells, Entry, Campaign, Goal, Want, wanted, Busy, busy_count, IsIn, Turns, AreApart, IsBusy, IsUnderWay, Prepared, wanting, wanting_from, may_give}
use Rattle.campaign_core.proofs.SlotLemmas.{count_first}

-- how many of n numbers, from m on, are so
abbrev counted : (ℕ → Bool) → (m n : ℕ) → ℕ
counted p m zero = 0
counted p m (suc n) = (if p m then 1 else 0) + counted p (m + 1) n

-- all that are so but this one
abbrev without : (ℕ → Bool) → ℕ → ℕ → Bool
without p b k = if k == b then false else p k

-- one number in front: another one, this one, or another one while this one comes later
same_first : (t v : Bool) (x y : ℕ) → t ≡ false → x ≡ y → (if (if t then false else v) then 1 else 0) + x ≡ (if v then 1 else 0) + y
same_first true v x y is same = absurd (let never : true ≡ false = is in cc)
same_first false v x y is same = ap (λ (n : ℕ). (if v then 1 else 0) + n) same

taken_first : (t v : Bool) (x y : ℕ) → t ≡ true → v ≡ true → x ≡ y → (if v then 1 else 0) + x ≡ suc ((if (if t then false else v) then 1 else 0) + y)
taken_first true true x y is so same = omega (arith, same)
taken_first true false x y is so same = absurd (let never : false ≡ true = so in cc)
taken_first false v x y is so same = absurd (let never : false ≡ true = is in cc)

later_taken : (t v : Bool) (x y : ℕ) → t ≡ false → x ≡ suc y → (if v then 1 else 0) + x ≡ suc ((if (if t then false else v) then 1 else 0) + y)
later_taken true v x y is same = absurd (let never : true ≡ false = is in cc)
later_taken false true x y is same = omega (arith, same)
later_taken false false x y is same = omega (arith, same)

outside : (p : ℕ → Bool) (b m n : ℕ) → b < m → counted (without p b) m n ≡ counted p m n
outside p b m zero below = refl
outside p b m (suc n) below = elim (eqb_tells m b) [
  | inl h ↦ absurd (omega (arith, h.1, below))
  | inr h ↦ same_first (m == b) (p m) (counted (without p b) (m + 1) n) (counted p (m + 1) n) h.0 (outside p b (m + 1) n (omega (arith, below)))
]

one_less : (p : ℕ → Bool) (b m n : ℕ) → p b ≡ true → m ≤ b → b < m + n → counted p m n ≡ suc (counted (without p b) m n)
one_less p b m zero so low high = absurd (omega (arith, low, high))
one_less p b m (suc n) so low high = elim (eqb_tells m b) [
  | inl h ↦ taken_first (m == b) (p m) (counted p (m + 1) n) (counted (without p b) (m + 1) n) h.0 (ap p h.1 ∙ so) (sym (outside p b (m + 1) n (omega (arith, h.1))))
  | inr h ↦ later_taken (m == b) (p m) (counted p (m + 1) n) (counted (without p b) (m + 1) n) h.0 (one_less p b (m + 1) n so (omega (arith, low, h.1)) (omega (arith, high)))
]

kept : (t v : Bool) → t ≡ false → v ≡ true → (if t then false else v) ≡ true
kept true v is so = absurd (let never : true ≡ false = is in cc)
kept false v is so = so

rest_apart : (slot : Option Busy) (slots : List (Option Busy)) → AreApart (slot ∷ slots) → AreApart slots
rest_apart slot slots apart i j a b at_i at_j same = let next : suc i ≡ suc j = apart (suc i) (suc j) a b at_i at_j same in omega (arith, next)

few : (p : ℕ → Bool) (n : ℕ) (slots : List (Option Busy)) → ((slot : ℕ) (busy : Busy) → IsIn slots slot busy → (p busy.asked.mutation ≡ true) × (busy.asked.mutation < n)) → AreApart slots → busy_count slots ≤ counted p 0 n
few p n [] each apart = omega arith
few p n (None ∷ slots) each apart =
    let front : busy_count (None ∷ slots) ≡ 0 + busy_count slots = count_first None slots in
    let rest : busy_count slots ≤ counted p 0 n = few p n slots (λ slot busy at. each (suc slot) busy at) (rest_apart None slots apart) in
    omega (arith, front, rest)
few p n (Some b ∷ slots) each apart =
    let here : (p b.asked.mutation ≡ true) × (b.asked.mutation < n) = each 0 b refl in
    let front : busy_count (Some b ∷ slots) ≡ 1 + busy_count slots = count_first (Some b) slots in
    let rest : busy_count slots ≤ counted (without p b.asked.mutation) 0 n = few (without p b.asked.mutation) n slots (λ slot busy at. (other slot busy at, (each (suc slot) busy at).1)) (rest_apart (Some b) slots apart) in
    omega (arith, front, rest, one_less p b.asked.mutation 0 n here.0 (omega arith) (omega (arith, here.1)))
  where
    other : (slot : ℕ) (busy : Busy) → IsIn slots slot busy → without p b.asked.mutation busy.asked.mutation ≡ true
    other slot busy at = elim (eqb_tells busy.asked.mutation b.asked.mutation) [
      | inl h ↦ absurd (let never : 0 ≡ suc slot = apart 0 (suc slot) b busy refl at (sym h.1) in omega (arith, never))
      | inr h ↦ kept (busy.asked.mutation == b.asked.mutation) (p busy.asked.mutation) h.0 (each (suc slot) busy at).0
    ]

same_count : (c : Prepared) (aim : Goal) (rows : List Entry) (m n : ℕ) → wanting_from c aim rows m n ≡ counted (λ k. is_some (wanted c.campaign rows k aim)) m n
same_count c aim rows m zero = refl
same_count c aim rows m (suc n) = ap (λ (x : ℕ). (if is_some (wanted c.campaign rows m aim) then 1 else 0) + x) (same_count c aim rows (m + 1) n)

pub busy_wanted : (c : Prepared) (aim : Goal) (s : Turns Prepared) → s.campaign ≡ c.campaign → s.goal ≡ aim → IsUnderWay (may_give s.tester) s → busy_count s.slots ≤ wanting c aim s.state.rows
busy_wanted c aim s campaign goal order =
    subst (λ (n : ℕ). busy_count s.slots ≤ n) (sym (same_count c aim s.state.rows 0 (length c.campaign.mutations))) (few (λ k. is_some (wanted c.campaign s.state.rows k aim)) (length c.campaign.mutations) s.slots each order.apart)
  where
    each : (slot : ℕ) (busy : Busy) → IsIn s.slots slot busy → (is_some (wanted c.campaign s.state.rows busy.asked.mutation aim) ≡ true) × (busy.asked.mutation < length c.campaign.mutations)
    each slot busy at =
        let test : IsBusy (may_give s.tester) s.campaign s.goal s.state.rows busy = order.tests slot busy at in
        let mine : wanted c.campaign s.state.rows busy.asked.mutation aim ≡ Some (record { test = busy.asked.test; bound = busy.asked.bound }) =
        subst (λ (g : Goal). wanted c.campaign s.state.rows busy.asked.mutation g ≡ Some (record { test = busy.asked.test; bound = busy.asked.bound })) goal
        (subst (λ (k : Campaign). wanted k s.state.rows busy.asked.mutation s.goal ≡ Some (record { test = busy.asked.test; bound = busy.asked.bound })) campaign test.is_wanted) in
        (ap (λ (o : Option Want). is_some o) mine, subst (λ (k : Campaign). busy.asked.mutation < length k.mutations) campaign test.mutation)
