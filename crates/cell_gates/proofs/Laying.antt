-- A row laid into another.
use Rattle.cell_gates.proofs.Common.{◌≡◌, ℕ, zero, suc, ◌+◌, ◌-◌, ◌≤◌, Bool, true, false, not, List, [], ◌∷◌, ◌++◌, length, map, take, drop, replicate, refl, ap, subst, ◌∙◌, arith, if◌then◌else◌}
use Rattle.cell_gates.proofs.Common.{length-append, length-replicate, length-take-le, Values, laid_at, And, Or, Up, operation_value, both_bits, moved, take-append-take}
use Rattle.cell_gates.proofs.CellNumbers.{fitted-take}

-- A without the bits that D is laid over, and D, as a row that is filled with zeros
abbrev pub over : Values → List Bool → List Bool → List Bool → List Bool
over values a ones d = both_bits (operation_value Or values) (both_bits (operation_value And values) a (map not (take (length a) ones))) (take (length a) d)

kept-bit : (x : Bool) → (if (if x then true else false) then true else false) ≡ x
kept-bit true = refl
kept-bit false = refl

laid-bit : (x y : Bool) → (if (if x then false else false) then true else y) ≡ y
laid-bit true y = refl
laid-bit false y = refl

-- D at bit 0
laid-first : (values : Values) (a d : List Bool) (z : ℕ) → length a ≤ z → over values a (replicate (length d) true ++ replicate z false) (d ++ replicate z false) ≡ take (length a) (d ++ drop (length d) a)
laid-first values [] d z enough = refl
laid-first values (x ∷ a) [] zero enough = absurd (omega arith)
laid-first values (x ∷ a) [] (suc z) enough = ap (λ (b : Bool). b ∷ over values a (replicate z false) (replicate z false)) (kept-bit x) ∙ ap (λ (l : List Bool). x ∷ l) (laid-first values a [] z (omega (arith, enough)))
laid-first values (x ∷ a) (y ∷ d) z enough = ap (λ (b : Bool). b ∷ over values a (replicate (length d) true ++ replicate z false) (d ++ replicate z false)) (laid-bit x y) ∙ ap (λ (l : List Bool). y ∷ l) (laid-first values a d z (omega (arith, enough)))

-- D at bit n
laid-bits : (values : Values) (n : ℕ) (a d : List Bool) (z : ℕ) → length a ≤ z → over values a (replicate n false ++ (replicate (length d) true ++ replicate z false)) (replicate n false ++ (d ++ replicate z false)) ≡ laid_at a n d
laid-bits values zero a d z enough = laid-first values a d z enough ∙ ap (λ (k : ℕ). take (length a) (d ++ drop k a)) (let e : length d ≡ zero + length d = omega arith in e)
laid-bits values (suc n) [] d z enough = refl
laid-bits values (suc n) (x ∷ a) d z enough =
    ap (λ (b : Bool). b ∷ over values a (replicate n false ++ (replicate (length d) true ++ replicate z false)) (replicate n false ++ (d ++ replicate z false))) (kept-bit x)
    ∙ ap (λ (l : List Bool). x ∷ l) (laid-bits values n a d z (omega (arith, enough)))
    ∙ ap (λ (k : ℕ). x ∷ take (length a) (take n a ++ d ++ drop k (x ∷ a))) (let e : suc (n + length d) ≡ suc n + length d = omega arith in e)

-- a row at A's width, moved up
moved-fitted : (n w : ℕ) (bits : List Bool) → moved Up n false (take w bits ++ replicate (w - length bits) false) ≡ take w (replicate n false ++ (bits ++ replicate w false))
moved-fitted n w bits =
    let same : take w bits ++ replicate (w - length bits) false ≡ take w (bits ++ replicate w false) = fitted-take w w false bits (omega arith) in
    let long : length (take w (bits ++ replicate w false)) ≡ w = length-take-le w (bits ++ replicate w false) (omega (arith, length-append bits (replicate w false), length-replicate w false)) in
    ap (λ (l : List Bool). moved Up n false l) same
    ∙ ap (λ (k : ℕ). take k (replicate n false ++ take w (bits ++ replicate w false))) long
    ∙ take-append-take w w (replicate n false) (bits ++ replicate w false) (omega arith)

laid-moved : (values : Values) (a d : List Bool) (n : ℕ) → both_bits (operation_value Or values) (both_bits (operation_value And values) a (map not (moved Up n false (take (length a) (replicate (length d) true) ++ replicate (length a - length (replicate (length d) true)) false)))) (moved Up n false (take (length a) d ++ replicate (length a - length d) false)) ≡ laid_at a n d
laid-moved values a d n =
    ap (λ (l : List Bool). both_bits (operation_value Or values) (both_bits (operation_value And values) a (map not l)) (moved Up n false (take (length a) d ++ replicate (length a - length d) false))) (moved-fitted n (length a) (replicate (length d) true))
    ∙ ap (λ (l : List Bool). both_bits (operation_value Or values) (both_bits (operation_value And values) a (map not (take (length a) (replicate n false ++ (replicate (length d) true ++ replicate (length a) false))))) l) (moved-fitted n (length a) d)
    ∙ laid-bits values n a d (length a) (omega arith)

pub laid-wide : (values : Values) (a d : List Bool) (n w k : ℕ) → length a ≡ w → length d ≡ k → both_bits (operation_value Or values) (both_bits (operation_value And values) a (map not (moved Up n false (take w (replicate k true) ++ replicate (w - length (replicate k true)) false)))) (moved Up n false (take w d ++ replicate (w - length d) false)) ≡ laid_at a n d
laid-wide values a d n w k wide count =
    subst (λ (j : ℕ). both_bits (operation_value Or values) (both_bits (operation_value And values) a (map not (moved Up n false (take j (replicate k true) ++ replicate (j - length (replicate k true)) false)))) (moved Up n false (take j d ++ replicate (j - length d) false)) ≡ laid_at a n d) wide
    (subst (λ (j : ℕ). both_bits (operation_value Or values) (both_bits (operation_value And values) a (map not (moved Up n false (take (length a) (replicate j true) ++ replicate (length a - length (replicate j true)) false)))) (moved Up n false (take (length a) d ++ replicate (length a - length d) false)) ≡ laid_at a n d) count (laid-moved values a d n))
