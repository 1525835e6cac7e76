-- Netlists with the same ports and registers have the same widths.
use Rattle.pair_gates.proofs.Common.{◌≡◌, ℕ, ◌+◌, List, [], ◌∷◌, length, map, refl, sym, ap, ◌∙◌, arith, Values, Bit, Port, Register, RawNetlist, number, bits_at, q_bits, d_bits, all_bits, free_bits}
use Rattle.pair_gates.proofs.Common.{AllRegistersFit, lit_values, variables, free_numbers, input_numbers, register_numbers, Named, ports_named, registers_named, AreAlike}

-- as many bits in each port
abbrev pub AreSameWide : List (List Bit) → List (List Bit) → Type 0
AreSameWide ps qs = map length ps ≡ map length qs

ports-widths : (ports : List Port) → map (λ (n : Named). n.width) (ports_named ports) ≡ map length (bits_at ports)
ports-widths [] = refl
ports-widths (p ∷ more) = ap (λ (l : List ℕ). length p.bits ∷ l) (ports-widths more)

registers-widths : (registers : List Register) → map (λ (n : Named). n.width) (registers_named registers) ≡ map length (q_bits registers)
registers-widths [] = refl
registers-widths (r ∷ more) = ap (λ (l : List ℕ). length r.q ∷ l) (registers-widths more)

pub ports-same : (ps qs : List Port) → ports_named ps ≡ ports_named qs → AreSameWide (bits_at ps) (bits_at qs)
ports-same ps qs e = sym (ports-widths ps) ∙ ap (λ (l : List Named). map (λ (n : Named). n.width) l) e ∙ ports-widths qs

pub registers-same : (rs ss : List Register) → registers_named rs ≡ registers_named ss → AreSameWide (q_bits rs) (q_bits ss)
registers-same rs ss e = sym (registers-widths rs) ∙ ap (λ (l : List Named). map (λ (n : Named). n.width) l) e ∙ registers-widths ss

-- D is as wide as Q
pub next-widths : (registers : List Register) → AllRegistersFit registers → AreSameWide (d_bits registers) (q_bits registers)
next-widths [] fit = refl
next-widths (r ∷ more) fit =
    let first : length r.d ≡ length r.q = fit.0 ∙ sym fit.1 in
    let rest : map length (d_bits more) ≡ map length (q_bits more) = next-widths more fit.2 in
    λ i. first i ∷ rest i

pub next-same : (rs ss : List Register) → AllRegistersFit rs → AllRegistersFit ss → registers_named rs ≡ registers_named ss → AreSameWide (d_bits rs) (d_bits ss)
next-same rs ss fit also e = next-widths rs fit ∙ registers-same rs ss e ∙ sym (next-widths ss also)

head-same : (p q : List Bit) (ps qs : List (List Bit)) → AreSameWide (p ∷ ps) (q ∷ qs) → length p ≡ length q
head-same p q ps qs e = cc

tail-same : (p q : List Bit) (ps qs : List (List Bit)) → AreSameWide (p ∷ ps) (q ∷ qs) → AreSameWide ps qs
tail-same p q ps qs e = cc

pub bits-same : (ps qs : List (List Bit)) → AreSameWide ps qs → all_bits ps ≡ all_bits qs
bits-same [] [] e = refl
bits-same [] (q ∷ qs) e = absurd (cc)
bits-same (p ∷ ps) [] e = absurd (cc)
bits-same (p ∷ ps) (q ∷ qs) e = (let first = head-same p q ps qs e in let rest = bits-same ps qs (tail-same p q ps qs e) in omega (arith, first, rest))

free-same : (values : Values) (first : ℕ) (ps qs : List (List Bit)) → AreSameWide ps qs → free_numbers values first ps ≡ free_numbers values first qs
free-same values first [] [] e = refl
free-same values first [] (q ∷ qs) e = absurd (cc)
free-same values first (p ∷ ps) [] e = absurd (cc)
free-same values first (p ∷ ps) (q ∷ qs) e =
    let w : length p ≡ length q = head-same p q ps qs e in
    let rest : free_numbers values (first + length p) ps ≡ free_numbers values (first + length q) qs =
    free-same values (first + length p) ps qs (tail-same p q ps qs e) ∙ ap (λ (n : ℕ). free_numbers values (first + n) qs) w in
    λ i. number (lit_values values (variables first (w i))) ∷ rest i

-- So both have the same free bits.
module _ (a b : RawNetlist) (alike : AreAlike a b) where
  inputs : AreSameWide (bits_at a.inputs) (bits_at b.inputs)
  inputs = ports-same a.inputs b.inputs alike.0.inputs

  state : AreSameWide (q_bits a.registers) (q_bits b.registers)
  state = registers-same a.registers b.registers alike.1

  pub free-bits-same : free_bits a ≡ free_bits b
  free-bits-same = (let x = bits-same (bits_at a.inputs) (bits_at b.inputs) inputs in let y = bits-same (q_bits a.registers) (q_bits b.registers) state in omega (arith, x, y))

  pub inputs-numbered : (values : Values) → input_numbers b values ≡ input_numbers a values
  inputs-numbered values = sym (free-same values 1 (bits_at a.inputs) (bits_at b.inputs) inputs)

  pub registers-numbered : (values : Values) → register_numbers b values ≡ register_numbers a values
  registers-numbered values =
      ap (λ (n : ℕ). free_numbers values (1 + n) (q_bits b.registers)) (sym (bits-same (bits_at a.inputs) (bits_at b.inputs) inputs))
      ∙ sym (free-same values (1 + all_bits (bits_at a.inputs)) (q_bits a.registers) (q_bits b.registers) state)
