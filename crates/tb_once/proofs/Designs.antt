-- A bench with different designs.
use Rattle.tb_once.proofs.Common.{◌≡◌, ℕ, List, [], ◌∷◌, map, length, refl, sym, ap, Bit, bits_at, event_of_phase, meaning, assigns_of, values_at, whole_updates, names, widths, begun, with_clock}
use Rattle.tb_once.specs.Laws.{SettingsByDesign, StartsByRegisters}

empty_is_not : (n : ℕ) (ns : List ℕ) → [] ≡ n ∷ ns → ⊥
empty_is_not n ns e = absurd cc

abbrev head_of : List ℕ → ℕ
head_of [] = 0
head_of (n ∷ ns) = n

abbrev tail_of : List ℕ → List ℕ
tail_of [] = []
tail_of (n ∷ ns) = ns

whole_same : (ks : List ℕ) (ps qs : List (List Bit)) (vs : List ℕ) → map length ps ≡ map length qs → whole_updates ks ps vs ≡ whole_updates ks qs vs
whole_same [] ps qs vs same = refl
whole_same (k ∷ ks) [] [] vs same = refl
whole_same (k ∷ ks) [] (q ∷ qs) vs same = absurd (empty_is_not (length q) (map length qs) same)
whole_same (k ∷ ks) (p ∷ ps) [] vs same = absurd (empty_is_not (length p) (map length ps) (sym same))
whole_same (k ∷ ks) (p ∷ ps) (q ∷ qs) [] same = refl
whole_same (k ∷ ks) (p ∷ ps) (q ∷ qs) (v ∷ vs) same =
    let wide : length p ≡ length q = ap head_of same in
    let rest : whole_updates ks ps vs ≡ whole_updates ks qs vs = whole_same ks ps qs vs (ap tail_of same) in
    λ i. record { signal = k; low = 0; width = wide i; value = v } ∷ rest i

pub settings_by_design : SettingsByDesign
settings_by_design b tree one other same = λ i. record {
  meaning = meaning (names b);
  always = map (begun tree) b.always;
  widths = widths b;
  clocked = λ phase. with_clock b.clock (event_of_phase phase);
  netlist = other;
  inputs = values_at b.inputs;
  outputs = λ vs. whole_same b.outputs (bits_at other.outputs) (bits_at one.outputs) vs (sym same) i;
  assigns = assigns_of (names b) b.nets.nodes;
}

pub starts_by_registers : StartsByRegisters
starts_by_registers b tree one other words same = λ i. record {
  phase = 0;
  store = map (λ w. w.bits) b.starts;
  registers = same i;
  next = same i;
  initial = map (begun tree) b.initial;
  words = words;
  text = [];
}
