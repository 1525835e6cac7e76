-- The derived test of two gates is that of the definition, and it is equality.
use Rattle.gate_list.proofs.Common.{◌≡◌, suc, ◌+◌, ◌<◌, Bool, true, false, not, ◌&&◌, List, [], ◌∷◌, length, get_or, refl, ap, sym, ◌∙◌, arith, true≢false, int_eq, list_any, prefix_len}
use Rattle.gate_list.proofs.Common.{position_or_len, signed_Decides, Gate, And, Xor, Mux, same_gate, eq-value}

pub same-is : (g h : Gate) → eq-value.it g h ≡ same_gate g h
same-is (And a b) (And c d) = refl
same-is (And a b) (Xor c d) = refl
same-is (And a b) (Mux t c d) = refl
same-is (Xor a b) (And c d) = refl
same-is (Xor a b) (Xor c d) = refl
same-is (Xor a b) (Mux t c d) = refl
same-is (Mux s a b) (And c d) = refl
same-is (Mux s a b) (Xor c d) = refl
same-is (Mux s a b) (Mux t c d) = refl

pub any-agree : {X : Type 0} (p q : X → Bool) → ((x : X) → p x ≡ q x) → (xs : List X) → list_any p xs ≡ list_any q xs
any-agree p q same [] = refl
any-agree p q same (x ∷ xs) = rw (same x, any-agree p q same xs) refl

pub prefix-agree : {X : Type 0} (p q : X → Bool) → ((x : X) → p x ≡ q x) → (xs : List X) → prefix_len p xs ≡ prefix_len q xs
prefix-agree p q same [] = refl
prefix-agree p q same (x ∷ xs) = rw (same x, prefix-agree p q same xs) refl

pub position-agree : {X : Type 0} (p q : X → Bool) → ((x : X) → p x ≡ q x) → (xs : List X) → position_or_len p xs ≡ position_or_len q xs
position-agree p q same xs = prefix-agree (λ x. not (p x)) (λ x. not (q x)) (λ x. ap not (same x)) xs

pub both : (a b : Bool) → (a && b) ≡ true → (a ≡ true) × (b ≡ true)
both true true e = (refl, refl)
both true false e = absurd (true≢false (sym e))
both false b e = absurd (true≢false (sym e))

-- gates that are the same are equal
pub same-equal : (g h : Gate) → same_gate g h ≡ true → g ≡ h
same-equal (And a b) (And c d) e =
    let each : (int_eq a c ≡ true) × (int_eq b d ≡ true) = both (int_eq a c) (int_eq b d) e in
    let first : a ≡ c = (signed_Decides a c).0 each.0 in
    let second : b ≡ d = (signed_Decides b d).0 each.1 in
    rw (first, second) refl
same-equal (And a b) (Xor c d) e = absurd (true≢false (sym e))
same-equal (And a b) (Mux t c d) e = absurd (true≢false (sym e))
same-equal (Xor a b) (And c d) e = absurd (true≢false (sym e))
same-equal (Xor a b) (Xor c d) e =
    let each : (int_eq a c ≡ true) × (int_eq b d ≡ true) = both (int_eq a c) (int_eq b d) e in
    let first : a ≡ c = (signed_Decides a c).0 each.0 in
    let second : b ≡ d = (signed_Decides b d).0 each.1 in
    rw (first, second) refl
same-equal (Xor a b) (Mux t c d) e = absurd (true≢false (sym e))
same-equal (Mux s a b) (And c d) e = absurd (true≢false (sym e))
same-equal (Mux s a b) (Xor c d) e = absurd (true≢false (sym e))
same-equal (Mux s a b) (Mux t c d) e =
    let each : (int_eq s t ≡ true) × ((int_eq a c && int_eq b d) ≡ true) = both (int_eq s t) (int_eq a c && int_eq b d) e in
    let inputs : (int_eq a c ≡ true) × (int_eq b d ≡ true) = both (int_eq a c) (int_eq b d) each.1 in
    let select : s ≡ t = (signed_Decides s t).0 each.0 in
    let first : a ≡ c = (signed_Decides a c).0 inputs.0 in
    let second : b ≡ d = (signed_Decides b d).0 inputs.1 in
    rw (select, first, second) refl

-- where some element passes, the one at the first place does, and the place is in the list
pub first-passes : {X : Type 0} (p : X → Bool) (xs : List X) (d : X) → list_any p xs ≡ true → (position_or_len p xs < length xs) × (p (get_or xs (position_or_len p xs) d) ≡ true)
first-passes p [] d e = absurd (true≢false (sym e))
first-passes p (x ∷ xs) d e = first p x xs d (p x) refl e (first-passes p xs d) where
  first : {X : Type 0} (p : X → Bool) (x : X) (xs : List X) (d : X) (b : Bool) → p x ≡ b → list_any p (x ∷ xs) ≡ true → (list_any p xs ≡ true → (position_or_len p xs < length xs) × (p (get_or xs (position_or_len p xs) d) ≡ true)) → (position_or_len p (x ∷ xs) < length (x ∷ xs)) × (p (get_or (x ∷ xs) (position_or_len p (x ∷ xs)) d) ≡ true)
  first p x xs d true is e more = rw is (omega arith, is)
  first p x xs d false is e more =
      let rest : list_any p xs ≡ true = sym (rw is refl) ∙ e in
      let found : (position_or_len p xs < length xs) × (p (get_or xs (position_or_len p xs) d) ≡ true) = more rest in
      let at : get_or (x ∷ xs) (1 + position_or_len p xs) d ≡ get_or xs (position_or_len p xs) d = let next : 1 + position_or_len p xs ≡ suc (position_or_len p xs) = omega arith in ap (λ k. get_or (x ∷ xs) k d) next in
      rw is (omega (arith, found.0), ap p at ∙ found.1)

-- where none passes, the place is the length
pub none-passes : {X : Type 0} (p : X → Bool) (xs : List X) → list_any p xs ≡ false → position_or_len p xs ≡ length xs
none-passes p [] e = refl
none-passes p (x ∷ xs) e = none p x xs (p x) refl e (none-passes p xs) where
  none : {X : Type 0} (p : X → Bool) (x : X) (xs : List X) (b : Bool) → p x ≡ b → list_any p (x ∷ xs) ≡ false → (list_any p xs ≡ false → position_or_len p xs ≡ length xs) → position_or_len p (x ∷ xs) ≡ length (x ∷ xs)
  none p x xs true is e more = absurd (true≢false (sym (rw is refl) ∙ e))
  none p x xs false is e more = rw is (omega (arith, more (sym (rw is refl) ∙ e)))
