-- What is built is ended as one netlist.
use Rattle.hier_once.proofs.Common.{◌≡◌, ◌↔◌, inl, inr, ℕ, List, [], ◌∷◌, map, Option, refl, sym, ap, ◌∙◌, subst, Bit, Register, RawNetlist, Building, signal, LeadsTo, step_of, all_led, led_cell}
use Rattle.hier_once.proofs.Common.{led_port, AreRegistersOf, IsEnding, IsRegisterOf, port_of, registers_in}
use Rattle.flat_runs.specs.Finishing.{IsFirstWith}
use Rattle.flat_scopes.proofs.Valued.{same_parts}

-- a net leads to one bit
leads_same : (b : Building) (ports : List (List Bit)) (to also : ℕ → Bit) → ((n : ℕ) (end : Bit) → LeadsTo (step_of b ports) n end ↔ (to n ≡ end)) → ((n : ℕ) (end : Bit) → LeadsTo (step_of b ports) n end ↔ (also n ≡ end)) → to ≡ also
leads_same b ports to also h g = λ i n. (h n (also n)).0 ((g n (also n)).1 refl) i

-- Registers.

first_with_once : (q : List Bit) (rs : List Register) (r s : Register) → IsFirstWith q rs r → IsFirstWith q rs s → r ≡ s
first_with_once q [] r s h g = absurd h
first_with_once q (x ∷ more) r s (inl h) (inl g) = sym h.1 ∙ g.1
first_with_once q (x ∷ more) r s (inl h) (inr g) = absurd (g.0 h.0)
first_with_once q (x ∷ more) r s (inr h) (inl g) = absurd (h.0 g.0)
first_with_once q (x ∷ more) r s (inr h) (inr g) = first_with_once q more r s h.1 g.1

register_once : (b : Building) (to : ℕ → Bit) (k : ℕ) (r s : Register) → IsRegisterOf b to k r → IsRegisterOf b to k s → r ≡ s
register_once b to k r s h g =
    let built : h.built ≡ g.built = first_with_once (signal b k) b.registers h.built g.built h.first g.first in
    let name : r.name ≡ s.name = h.name ∙ sym g.name in
    let span : r.span ≡ s.span = h.span ∙ sym g.span in
    let d : r.d ≡ s.d = h.d ∙ ap (λ (x : Register). all_led to x.d) built ∙ sym g.d in
    let q : r.q ≡ s.q = h.q ∙ sym g.q in
    let start : r.start ≡ s.start = same_parts r.start s.start (h.width ∙ sym g.width) (h.start ∙ sym g.start) in
    λ i. record { name = name i; span = span i; d = d i; q = q i; start = start i }

registers_once : (b : Building) (to : ℕ → Bit) (ks : List ℕ) (rs qs : List Register) → AreRegistersOf b to ks rs → AreRegistersOf b to ks qs → rs ≡ qs
registers_once b to [] [] [] h g = refl
registers_once b to [] [] (q ∷ qs) h g = absurd g
registers_once b to [] (r ∷ rs) qs h g = absurd h
registers_once b to (k ∷ ks) [] qs h g = absurd h
registers_once b to (k ∷ ks) (r ∷ rs) [] h g = absurd g
registers_once b to (k ∷ ks) (r ∷ rs) (q ∷ qs) h g =
    let first : r ≡ q = register_once b to k r q h.0 g.0 in
    let rest : rs ≡ qs = registers_once b to ks rs qs h.1 g.1 in
    λ i. first i ∷ rest i

-- The netlist.

pub ending_once : (b : Building) (top : List ℕ) (clock : Option (List ℕ)) (ins outs declared : List ℕ) (n m : RawNetlist) → IsEnding b top clock ins outs declared n → IsEnding b top clock ins outs declared m → n ≡ m
ending_once b top clock ins outs declared n m h g =
    let to : g.to ≡ h.to = leads_same b (map (signal b) ins) g.to h.to g.leads h.leads in
    let there : AreRegistersOf b h.to (registers_in b declared) m.registers = subst (λ (t : ℕ → Bit). AreRegistersOf b t (registers_in b declared) m.registers) to g.registers in
    let name : n.top ≡ m.top = h.top ∙ sym g.top in
    let clocked : n.clock ≡ m.clock = h.clock ∙ sym g.clock in
    let inputs : n.inputs ≡ m.inputs = h.inputs ∙ sym g.inputs in
    let outputs : n.outputs ≡ m.outputs = h.outputs ∙ sym (ap (λ (t : ℕ → Bit). map (led_port t) (map (port_of b) outs)) to) ∙ sym g.outputs in
    let registers : n.registers ≡ m.registers = registers_once b h.to (registers_in b declared) n.registers m.registers h.registers there in
    let cells : n.cells ≡ m.cells = h.cells ∙ sym (ap (λ (t : ℕ → Bit). map (led_cell t) b.cells) to) ∙ sym g.cells in
    λ i. record { top = name i; clock = clocked i; inputs = inputs i; outputs = outputs i; registers = registers i; cells = cells i }
