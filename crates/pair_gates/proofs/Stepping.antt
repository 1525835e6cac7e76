-- Two steps are alike exactly where the bits that they show are the same.
use Rattle.pair_gates.proofs.Common.{◌≡◌, ℕ, ◌+◌, Bool, List, [], ◌∷◌, ◌++◌, length, map, refl, sym, ap, ◌∙◌, arith, map-append, length-append, Bit, Register, RawNetlist, number, Nets, bit_value}
use Rattle.pair_gates.proofs.Common.{values, bits_at, d_bits, plain, port_numbers, taken, IsFormed, all_bits, number-injective, length-values, design, StepsAlike, joined, AreAlike, step_bits}
use Rattle.pair_gates.proofs.Widths.{AreSameWide, ports-same, next-same, bits-same}

taken-numbers : (nets : Nets) (k : ℕ) (registers : List Register) → taken (plain nets) k registers ≡ port_numbers nets (d_bits registers)
taken-numbers nets k [] = refl
taken-numbers nets k (r ∷ more) = ap (λ (l : List ℕ). number (values nets r.d) ∷ l) (taken-numbers nets (k + 1) more)

values-joined : (nets : Nets) (xs ys : List Bit) → values nets (xs ++ ys) ≡ values nets xs ++ values nets ys
values-joined nets xs ys = map-append (bit_value nets) xs ys

append-same : (xs us ys vs : List Bool) → length xs ≡ length ys → xs ++ us ≡ ys ++ vs → (xs ≡ ys) × (us ≡ vs)
append-same [] us [] vs long e = (refl, e)
append-same [] us (y ∷ ys) vs long e = absurd (omega (arith, long))
append-same (x ∷ xs) us [] vs long e = absurd (omega (arith, long))
append-same (x ∷ xs) us (y ∷ ys) vs long e =
    let head : x ≡ y = cc in
    let tail : xs ++ us ≡ ys ++ vs = cc in
    let rest = append-same xs us ys vs (omega (arith, long)) tail in
    ((λ i. head i ∷ rest.0 i), rest.1)

numbers-bits : (x y : Nets) (ps qs : List (List Bit)) → AreSameWide ps qs → port_numbers x ps ≡ port_numbers y qs → values x (joined ps) ≡ values y (joined qs)
numbers-bits x y [] [] wide e = refl
numbers-bits x y [] (q ∷ qs) wide e = absurd (cc)
numbers-bits x y (p ∷ ps) [] wide e = absurd (cc)
numbers-bits x y (p ∷ ps) (q ∷ qs) wide e =
    let w : length p ≡ length q = cc in
    let ws : map length ps ≡ map length qs = cc in
    let n : number (values x p) ≡ number (values y q) = cc in
    let ns : port_numbers x ps ≡ port_numbers y qs = cc in
    let head : values x p ≡ values y q = number-injective (values x p) (values y q) (length-values x p ∙ w ∙ sym (length-values y q)) n in
    let tail : values x (joined ps) ≡ values y (joined qs) = numbers-bits x y ps qs ws ns in
    values-joined x p (joined ps) ∙ (λ i. head i ++ tail i) ∙ sym (values-joined y q (joined qs))

bits-numbers : (x y : Nets) (ps qs : List (List Bit)) → AreSameWide ps qs → values x (joined ps) ≡ values y (joined qs) → port_numbers x ps ≡ port_numbers y qs
bits-numbers x y [] [] wide e = refl
bits-numbers x y [] (q ∷ qs) wide e = absurd (cc)
bits-numbers x y (p ∷ ps) [] wide e = absurd (cc)
bits-numbers x y (p ∷ ps) (q ∷ qs) wide e =
    let w : length p ≡ length q = cc in
    let ws : map length ps ≡ map length qs = cc in
    let same = append-same (values x p) (values x (joined ps)) (values y q) (values y (joined qs)) (length-values x p ∙ w ∙ sym (length-values y q)) (sym (values-joined x p (joined ps)) ∙ e ∙ values-joined y q (joined qs)) in
    let rest : port_numbers x ps ≡ port_numbers y qs = bits-numbers x y ps qs ws same.1 in
    λ i. number (same.0 i) ∷ rest i

pub joined-long : (ports : List (List Bit)) → length (joined ports) ≡ all_bits ports
joined-long [] = refl
joined-long (bits ∷ more) = (let rest = joined-long more in let sum = length-append bits (joined more) in omega (arith, rest, sum))

module _ (a b : RawNetlist) (alike : AreAlike a b) (formed : IsFormed a) (also : IsFormed b) where
  outputs : AreSameWide (bits_at a.outputs) (bits_at b.outputs)
  outputs = ports-same a.outputs b.outputs alike.0.outputs

  next : AreSameWide (d_bits a.registers) (d_bits b.registers)
  next = next-same a.registers b.registers formed.registers also.registers alike.1

  -- as many bits are shown
  outputs-long : length (joined (bits_at a.outputs)) ≡ length (joined (bits_at b.outputs))
  outputs-long = joined-long (bits_at a.outputs) ∙ bits-same (bits_at a.outputs) (bits_at b.outputs) outputs ∙ sym (joined-long (bits_at b.outputs))

  next-long : length (joined (d_bits a.registers)) ≡ length (joined (d_bits b.registers))
  next-long = joined-long (d_bits a.registers) ∙ bits-same (d_bits a.registers) (d_bits b.registers) next ∙ sym (joined-long (d_bits b.registers))

  pub step-long : length (step_bits a) ≡ length (step_bits b)
  step-long = (let x = length-append (joined (bits_at a.outputs)) (joined (d_bits a.registers)) in let y = length-append (joined (bits_at b.outputs)) (joined (d_bits b.registers)) in omega (arith, x, y, outputs-long, next-long))

  pub alike-bits : (x y : Nets) → StepsAlike (design a) (design b) x y → values x (step_bits a) ≡ values y (step_bits b)
  alike-bits x y is =
      let head : values x (joined (bits_at a.outputs)) ≡ values y (joined (bits_at b.outputs)) = numbers-bits x y (bits_at a.outputs) (bits_at b.outputs) outputs is.outputs in
      let tail : values x (joined (d_bits a.registers)) ≡ values y (joined (d_bits b.registers)) = numbers-bits x y (d_bits a.registers) (d_bits b.registers) next (sym (taken-numbers x 0 a.registers) ∙ is.next ∙ taken-numbers y 0 b.registers) in
      values-joined x (joined (bits_at a.outputs)) (joined (d_bits a.registers)) ∙ (λ i. head i ++ tail i) ∙ sym (values-joined y (joined (bits_at b.outputs)) (joined (d_bits b.registers)))

  pub bits-alike : (x y : Nets) → values x (step_bits a) ≡ values y (step_bits b) → StepsAlike (design a) (design b) x y
  bits-alike x y e =
      let same = append-same (values x (joined (bits_at a.outputs))) (values x (joined (d_bits a.registers))) (values y (joined (bits_at b.outputs))) (values y (joined (d_bits b.registers)))
      (length-values x (joined (bits_at a.outputs)) ∙ outputs-long ∙ sym (length-values y (joined (bits_at b.outputs))))
      (sym (values-joined x (joined (bits_at a.outputs)) (joined (d_bits a.registers))) ∙ e ∙ values-joined y (joined (bits_at b.outputs)) (joined (d_bits b.registers))) in
      record {
        outputs = bits-numbers x y (bits_at a.outputs) (bits_at b.outputs) outputs same.0;
        next = taken-numbers x 0 a.registers ∙ bits-numbers x y (d_bits a.registers) (d_bits b.registers) next same.1 ∙ sym (taken-numbers y 0 b.registers);
      }
