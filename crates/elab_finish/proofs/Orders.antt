-- How registers are put in order.
use Rattle.elab_finish.proofs.Common.{◌≡◌, ◌≢◌, ◌⊎◌, ℕ, zero, suc, ◌+◌, ◌<◌, ◌≤◌, Bool, true, false, List, [], ◌∷◌, ◌++◌, length, take, get_or, set, slice_get, Option, Some, None, refl, sym, ◌∙◌, ap}
use Rattle.elab_finish.proofs.Common.{subst, inl, inr, arith, add-one, IsTrue, MatchOption, Contains, false≢true, Span, cases_lt, eqb_tells, get_or-set_same, get_or-set_other, append-nil, Bit, Fixed}
use Rattle.elab_finish.proofs.Common.{Net, Register, q_bits, times_at, Building, IsJoined, IsStored, is_stored, stored_there, stored_told, times_get, AreKnown, is_register, registers_in, head_in}
use Rattle.elab_finish.proofs.Common.{with_head, after_lowest, AreSlots, AddsSlot, IsFilled, AreFilled}
use Rattle.std.specs.Prelude.{◌↔◌}
use Rattle.mcy_base.specs.declared.word.Word.{Word}

pub known_at : (b : Building) (ks : List ℕ) (k x : ℕ) → x ≡ get_or ks k x → AreKnown b ks → k < length ks → x < length b.signals
known_at b [] k x is known less = absurd (omega (arith, less))
known_at b (y ∷ ks) zero x is known less = subst (λ (n : ℕ). n < length b.signals) (sym is) known.0
known_at b (y ∷ ks) (suc k) x is known less = known_at b ks k x is known.1 (omega (arith, less))

-- Registers are added one after the other.

more_last : (b : Building) (j : ℕ) (ks more all : List ℕ) (is : Bool) → is_register b j ≡ is → registers_in b all ≡ registers_in b ks ++ registers_in b more → registers_in b (j ∷ all) ≡ registers_in b (j ∷ ks) ++ registers_in b more
more_last b j ks more all true e rest = rw e (ap (λ (l : List ℕ). j ∷ l) rest)
more_last b j ks more all false e rest = rw e rest

registers_last : (b : Building) (ks : List ℕ) (k : ℕ) → registers_in b (ks ++ k ∷ []) ≡ registers_in b ks ++ registers_in b (k ∷ [])
registers_last b [] k = refl
registers_last b (j ∷ ks) k = more_last b j ks (k ∷ []) (ks ++ k ∷ []) (is_register b j) refl (registers_last b ks k)

slots_append : (b : Building) (ks more : List ℕ) (rs later : List Register) → AreSlots b ks rs → AreSlots b more later → AreSlots b (ks ++ more) (rs ++ later)
slots_append b [] more [] later h k = k
slots_append b [] more (r ∷ rs) later h k = absurd h
slots_append b (x ∷ ks) more [] later h k = absurd h
slots_append b (x ∷ ks) more (r ∷ rs) later h k = (h.0, slots_append b ks more rs later h.1 k)

pub slots_step : (b : Building) (ks : List ℕ) (k x : ℕ) (old new : List Register) → x ≡ get_or ks k x → k < length ks → AreSlots b (registers_in b (take k ks)) old → AddsSlot b x old new → AreSlots b (registers_in b (take (k + 1) ks)) new
slots_step b ks k x old new is less so_far added =
    let front : take (k + 1) ks ≡ take k ks ++ x ∷ [] = ap (λ (n : ℕ). take n ks) (add-one k) ∙ taken_last ks k x is less in
    let all : registers_in b (take (k + 1) ks) ≡ registers_in b (take k ks) ++ registers_in b (x ∷ []) = ap (registers_in b) front ∙ registers_last b (take k ks) x in
    subst (λ (l : List ℕ). AreSlots b l new) (sym all) (elim added [
      | inl t ↦ subst (AreSlots b (registers_in b (take k ks) ++ registers_in b (x ∷ []))) (sym t.3) (slots_append b (registers_in b (take k ks)) (registers_in b (x ∷ [])) old (t.0 ∷ []) so_far (rw t.2 (t.1, tt)))
      | inr t ↦ subst (AreSlots b (registers_in b (take k ks) ++ registers_in b (x ∷ []))) (sym t.1) (subst (AreSlots b (registers_in b (take k ks) ++ registers_in b (x ∷ []))) (append-nil old) (slots_append b (registers_in b (take k ks)) (registers_in b (x ∷ [])) old [] so_far (rw t.0 tt)))
    ])
  where
    taken_last : (ks : List ℕ) (k x : ℕ) → x ≡ get_or ks k x → k < length ks → take (suc k) ks ≡ take k ks ++ x ∷ []
    taken_last [] k x is less = absurd (omega (arith, less))
    taken_last (y ∷ ks) zero x is less = ap (λ (z : ℕ). z ∷ []) (sym is)
    taken_last (y ∷ ks) (suc k) x is less = ap (λ (rest : List ℕ). y ∷ rest) (taken_last ks k x is (omega (arith, less)))

filled_append : (registers slots more rs later : List Register) → AreFilled registers slots rs → AreFilled registers more later → AreFilled registers (slots ++ more) (rs ++ later)
filled_append registers [] more [] later h k = k
filled_append registers [] more (r ∷ rs) later h k = absurd h
filled_append registers (x ∷ slots) more [] later h k = absurd h
filled_append registers (x ∷ slots) more (r ∷ rs) later h k = (h.0, filled_append registers slots more rs later h.1 k)

pub filled_step : (registers slots : List Register) (k : ℕ) (x r : Register) (old new : List Register) → x ≡ get_or slots k x → k < length slots → AreFilled registers (take k slots) old → IsFilled registers x r → new ≡ old ++ r ∷ [] → AreFilled registers (take (k + 1) slots) new
filled_step registers slots k x r old new is less so_far here added =
    let front : take (k + 1) slots ≡ take k slots ++ x ∷ [] = ap (λ (n : ℕ). take n slots) (add-one k) ∙ taken_last slots k x is less in
    subst (AreFilled registers (take (k + 1) slots)) (sym added) (subst (λ (l : List Register). AreFilled registers l (old ++ r ∷ [])) (sym front) (filled_append registers (take k slots) (x ∷ []) old (r ∷ []) so_far (here, tt)))
  where
    taken_last : (xs : List Register) (k : ℕ) (x : Register) → x ≡ get_or xs k x → k < length xs → take (suc k) xs ≡ take k xs ++ x ∷ []
    taken_last [] k x is less = absurd (omega (arith, less))
    taken_last (y ∷ xs) zero x is less = ap (λ (z : Register). z ∷ []) (sym is)
    taken_last (y ∷ xs) (suc k) x is less = ap (λ (rest : List Register). y ∷ rest) (taken_last xs k x is (omega (arith, less)))

-- The table of lowest bits.

push_reads : (table : List (Option ℕ)) (n : ℕ) → head_in (table ++ None ∷ []) n ≡ head_in table n
push_reads [] zero = refl
push_reads [] (suc n) = refl
push_reads (x ∷ more) zero = refl
push_reads (x ∷ more) (suc n) = push_reads more n

pub push_head : (table : List (Option ℕ)) → head_in (table ++ None ∷ []) ≡ head_in table
push_head table = λ i n. push_reads table n i

set_reads : (table : List (Option ℕ)) (n m place : ℕ) → n < length table → head_in (set table n (Some place)) m ≡ with_head n place (head_in table) m
set_reads table n m place h = elim (eqb_tells m n) [ inl t ↦ rw (t.0, t.1) (get_or-set_same table n (Some place) None h) | inr t ↦ rw t.0 (get_or-set_other table n m (Some place) None t.1) ]

pub set_head : (table : List (Option ℕ)) (n place : ℕ) → n < length table → head_in (set table n (Some place)) ≡ with_head n place (head_in table)
set_head table n place h = λ i m. set_reads table n m place h i

-- the lowest bits of the first registers tell their places
abbrev pub HaveFirst : List Register → (ℕ → Option ℕ) → ℕ → Type 0
HaveFirst registers heads count = (p n : ℕ) (r : Register) → p < count → slice_get registers p ≡ Some r → slice_get r.q 0 ≡ Some (Net n) → heads n ≡ Some p

there : (rs : List Register) (p n : ℕ) (r : Register) → slice_get rs p ≡ Some r → slice_get r.q 0 ≡ Some (Net n) → 1 ≤ times_at n (q_bits rs)
there [] p n r at low = absurd cc
there (x ∷ rs) zero n r at low =
    let same : x ≡ r = cc in
    let one = times_get x.q 0 n (ap (λ (y : Register). slice_get y.q 0) same ∙ low) in
    omega (arith, one)
there (x ∷ rs) (suc p) n r at low = let rest = there rs p n r at low in omega (arith, rest)

-- registers with one net in common are one
pub one_place : (rs : List Register) (p o n : ℕ) (r s : Register) → times_at n (q_bits rs) ≤ 1 → slice_get rs p ≡ Some r → slice_get rs o ≡ Some s → slice_get r.q 0 ≡ Some (Net n) → slice_get s.q 0 ≡ Some (Net n) → p ≡ o
one_place [] p o n r s once at_p at_o low_r low_s = absurd cc
one_place (x ∷ rs) zero zero n r s once at_p at_o low_r low_s = refl
one_place (x ∷ rs) zero (suc o) n r s once at_p at_o low_r low_s =
    let same : x ≡ r = cc in
    let one = times_get x.q 0 n (ap (λ (y : Register). slice_get y.q 0) same ∙ low_r) in
    let two = there rs o n s at_o low_s in
    absurd (omega (arith, once, one, two))
one_place (x ∷ rs) (suc p) zero n r s once at_p at_o low_r low_s =
    let same : x ≡ s = cc in
    let one = times_get x.q 0 n (ap (λ (y : Register). slice_get y.q 0) same ∙ low_s) in
    let two = there rs p n r at_p low_r in
    absurd (omega (arith, once, one, two))
one_place (x ∷ rs) (suc p) (suc o) n r s once at_p at_o low_r low_s = ap suc (one_place rs p o n r s (omega (arith, once)) at_p at_o low_r low_s)

lowest_after : (bits : List Bit) (place n : ℕ) (f : ℕ → Option ℕ) → slice_get bits 0 ≡ Some (Net n) → after_lowest bits place f n ≡ Some place
lowest_after [] place n f e = absurd cc
lowest_after (Fixed v ∷ more) place n f e = absurd cc
lowest_after (Net m ∷ more) place n f e = let same : n ≡ m = cc in elim (eqb_tells n m) [ inl t ↦ rw t.0 refl | inr t ↦ absurd (t.1 same) ]

lowest_other : (bits : List Bit) (place n : ℕ) (f : ℕ → Option ℕ) → slice_get bits 0 ≢ Some (Net n) → after_lowest bits place f n ≡ f n
lowest_other [] place n f not = refl
lowest_other (Fixed v ∷ more) place n f not = refl
lowest_other (Net m ∷ more) place n f not = elim (eqb_tells n m) [ inl t ↦ absurd (not (ap (λ (k : ℕ). Some (Net k)) (sym t.1))) | inr t ↦ rw t.0 refl ]

pub heads_step : (rs : List Register) (k : ℕ) (x : Register) (f : ℕ → Option ℕ) → ((n : ℕ) → times_at n (q_bits rs) ≤ 1) → slice_get rs k ≡ Some x → HaveFirst rs f k → HaveFirst rs (after_lowest x.q k f) (k + 1)
heads_step rs k x f once at before p n r less there_p low = elim (cases_lt p k) [
  | inl earlier ↦ lowest_other x.q k n f (λ e. (let same = one_place rs p k n r x (once n) there_p at low e in omega (arith, same, earlier))) ∙ before p n r earlier there_p low
  | inr not ↦
      let same : p ≡ k = omega (arith, less, not) in
      let is : Some r ≡ Some x = sym there_p ∙ ap (slice_get rs) same ∙ at in
      let one : r ≡ x = cc in
      lowest_after x.q k n f (ap (λ (y : Register). slice_get y.q 0) (sym one) ∙ low) ∙ ap (λ (y : ℕ). Some y) (sym same)
]

-- a register of a list, by its place
pub register_there : (rs : List Register) (k : ℕ) (x : Register) → x ≡ get_or rs k x → k < length rs → slice_get rs k ≡ Some x
register_there [] k x is less = absurd (omega (arith, less))
register_there (y ∷ rs) zero x is less = ap (λ (z : Register). Some z) (sym is)
register_there (y ∷ rs) (suc k) x is less = register_there rs k x is (omega (arith, less))

pub filled_is : (name : List ℕ) (span : Span) (d q : List Bit) (start : Word) (slot made : Register) → name ≡ slot.name → span ≡ slot.span → d ≡ made.d → q ≡ slot.q → start ≡ slot.start → record { name = name; span = span; d = d; q = q; start = start } ≡ record slot { d = made.d }
filled_is name span d q start slot made a b c e f = λ t. record { name = a t; span = b t; d = c t; q = e t; start = f t }

-- Whether a net is a register's.

pub not_stored : (b : Building) (n : ℕ) (o : Option Bit) (bit : Bit) → ((m : ℕ) → IsJoined b m → ¬ IsStored b m) → MatchOption o (¬ IsJoined b n) (λ x. Contains b.joints (record { net = n; bit = x })) → o ≡ Some bit → false ≡ is_stored b.registers n
not_stored b n o bit single tells is = by (is_stored b.registers n) refl
  where
    joined : IsJoined b n
    joined = (bit, subst (λ (p : Option Bit). MatchOption p (¬ IsJoined b n) (λ x. Contains b.joints (record { net = n; bit = x }))) is tells)

    by : (s : Bool) → is_stored b.registers n ≡ s → false ≡ s
    by true e = absurd (single n joined (stored_there b.registers n e))
    by false e = refl

pub stored_is : (b : Building) (n : ℕ) (o : Option Bit) (written : Bool) → MatchOption o (¬ IsJoined b n) (λ x. Contains b.joints (record { net = n; bit = x })) → o ≡ None → (IsTrue written ↔ (IsJoined b n ⊎ IsStored b n)) → written ≡ is_stored b.registers n
stored_is b n o written tells is told = by written (is_stored b.registers n) refl told
  where
    free : IsJoined b n → ⊥
    free = subst (λ (p : Option Bit). MatchOption p (¬ IsJoined b n) (λ x. Contains b.joints (record { net = n; bit = x }))) is tells

    by : (w s : Bool) → is_stored b.registers n ≡ s → (IsTrue w ↔ (IsJoined b n ⊎ IsStored b n)) → w ≡ s
    by true true e t = refl
    by true false e t = elim (t.0 refl) [ inl j ↦ absurd (free j) | inr s ↦ absurd (false≢true (sym e ∙ stored_told b.registers n s.0 s.1 s.2)) ]
    by false true e t = absurd (false≢true (t.1 (inr (stored_there b.registers n e))))
    by false false e t = refl
