-- A mutant has its netlist's ports and registers.
use Rattle.pair_gates.proofs.Common.{◌≡◌, ℕ, List, [], ◌∷◌, length, map, refl, sym, ap, inl, inr, slice_get, Register, bits_at, q_bits, Named, ports_named, registers_named, IsFirstAlone, PortsDiffer}
use Rattle.pair_gates.proofs.Common.{RegistersDiffer, MutantsAreAlike, AlikeAreNotApart}
use Rattle.netlist_core.specs.declared.port.Port as port

-- ports of the same names and widths
ports-alike : (ps qs : List port.Port) → map (λ (p : port.Port). p.name) qs ≡ map (λ (p : port.Port). p.name) ps → map length (bits_at qs) ≡ map length (bits_at ps) → ports_named ps ≡ ports_named qs
ports-alike [] [] names widths = refl
ports-alike [] (q ∷ qs) names widths = absurd (cc)
ports-alike (p ∷ ps) [] names widths = absurd (cc)
ports-alike (p ∷ ps) (q ∷ qs) names widths =
    let name : p.name ≡ q.name = cc in
    let width : length p.bits ≡ length q.bits = cc in
    let rest : ports_named ps ≡ ports_named qs = ports-alike ps qs (cc) (cc) in
    λ i. record { name = name i; width = width i } ∷ rest i

-- registers of the same names, with the same Q's
registers-alike : (rs ss : List Register) → map (λ (r : Register). r.name) ss ≡ map (λ (r : Register). r.name) rs → q_bits ss ≡ q_bits rs → registers_named rs ≡ registers_named ss
registers-alike [] [] names qs = refl
registers-alike [] (s ∷ ss) names qs = absurd (cc)
registers-alike (r ∷ rs) [] names qs = absurd (cc)
registers-alike (r ∷ rs) (s ∷ ss) names qs =
    let name : r.name ≡ s.name = cc in
    let q : r.q ≡ s.q = cc in
    let rest : registers_named rs ≡ registers_named ss = registers-alike rs ss (cc) (cc) in
    λ i. record { name = name i; width = length (q i) } ∷ rest i

pub mutants-are-alike : MutantsAreAlike
mutants-are-alike netlist mutant more names = (
  record {
    inputs = ap ports_named (sym more.inputs);
    outputs = ports-alike netlist.outputs mutant.outputs names.outputs names.widths;
  },
  registers-alike netlist.registers mutant.registers names.registers more.registers,
)

-- nothing stands alone in a list that is the other one
none-alone : (xs ys : List Named) (name : List ℕ) → xs ≡ ys → ¬ IsFirstAlone xs ys name
none-alone xs ys name same alone = alone.first.here.1 (ap (λ (l : List Named). slice_get l alone.place) (sym same))

pub alike-are-not-apart : AlikeAreNotApart
alike-are-not-apart a b alike name = (ports, registers) where
  ports : ¬ PortsDiffer a b name
  ports (inl alone) = none-alone (ports_named a.inputs) (ports_named b.inputs) name alike.0.inputs alone
  ports (inr (s, inl alone)) = none-alone (ports_named a.outputs) (ports_named b.outputs) name alike.0.outputs alone
  ports (inr (s, inr (t, inl alone))) = none-alone (ports_named b.inputs) (ports_named a.inputs) name (sym alike.0.inputs) alone
  ports (inr (s, inr (t, inr (u, inl alone)))) = none-alone (ports_named b.outputs) (ports_named a.outputs) name (sym alike.0.outputs) alone
  ports (inr (s, inr (t, inr (u, inr (v, never))))) = never

  registers : ¬ RegistersDiffer a b name
  registers (inl alone) = none-alone (registers_named a.registers) (registers_named b.registers) name alike.1 alone
  registers (inr (s, inl alone)) = none-alone (registers_named b.registers) (registers_named a.registers) name (sym alike.1) alone
  registers (inr (s, inr (t, never))) = never
