-- The netlist of a builder is a finished one of its design.
use Rattle.elab_finish.proofs.Common.{◌≡◌, ◌↔◌, ℕ, List, [], ◌∷◌, map, Option, refl, sym, ◌∙◌, ap, subst, inl, inr, Contains, Bit, Register, RawNetlist, bits_at, Building, signal, start_bits, LeadsTo}
use Rattle.elab_finish.proofs.Common.{step_of, led_register, Finished, Design, IsFirstWith, ArePut, Finishes, IsWhole, ready_finishes, Left, CanFinish, IsDesignOf, IsEnding, IsRegisterOf}
use Rattle.elab_finish.proofs.Common.{AreRegistersOf, port_of, registers_in}

pub bits_ports : (b : Building) (ks : List ℕ) → bits_at (map (port_of b) ks) ≡ map (signal b) ks
bits_ports b [] = refl
bits_ports b (k ∷ ks) = ap (λ (rest : List (List Bit)). signal b k ∷ rest) (bits_ports b ks)

-- the design that says no more than what the builder has
abbrev pub own_design : Building → List ℕ → List ℕ → List ℕ → Design
own_design b ins outs declared = record { items = []; width = λ k. 0; start = start_bits b; inputs = ins; outputs = outs; registers = registers_in b declared }

pub is_own : (b : Building) (ins outs declared : List ℕ) → IsDesignOf b ins outs declared (own_design b ins outs declared)
is_own b ins outs declared = record { inputs = refl; outputs = refl; registers = refl; starts = λ k. refl }

first_led : (to : ℕ → Bit) (q : List Bit) (rs : List Register) (r : Register) → IsFirstWith q rs r → IsFirstWith q (map (led_register to) rs) (led_register to r)
first_led to q [] r first = absurd first
first_led to q (s ∷ rs) r first = elim first [
  | inl here ↦ inl (here.0, ap (led_register to) here.1)
  | inr later ↦ inr (later.0, first_led to q rs r later.1)
]

registers_put : (b : Building) (design : Design) (to : ℕ → Bit) → ((k : ℕ) → start_bits b k ≡ design.start k) → (ks : List ℕ) (rs : List Register) → AreRegistersOf b to ks rs → ArePut b design (map (led_register to) b.registers) ks rs
registers_put b design to starts [] [] are = tt
registers_put b design to starts [] (r ∷ rs) are = absurd are
registers_put b design to starts (k ∷ ks) [] are = absurd are
registers_put b design to starts (k ∷ ks) (r ∷ rs) are =
    let x : IsRegisterOf b to k r = are.0 in (
      record { made = led_register to x.built; first = first_led to (signal b k) b.registers x.built x.first; q = x.q; d = x.d; start = x.start ∙ starts k },
      registers_put b design to starts ks rs are.1,
    )

module _ (b : Building) (ins outs declared : List ℕ) (lefts : List Left) (can : CanFinish b ins outs declared lefts) (design : Design) (is : IsDesignOf b ins outs declared design) where
  whole : IsWhole b design (map (port_of b) ins) (map (port_of b) outs)
  whole = record {
    own = can.own;
    started = can.started;
    inputs = bits_ports b ins ∙ ap (map (signal b)) (sym is.inputs);
    outputs = bits_ports b outs ∙ ap (map (signal b)) (sym is.outputs);
    starts = is.starts;
    joined = can.writers.joined;
    once = can.writers.once;
    single = can.writers.single;
    apart = λ n k i j at has. can.writers.no_input n k i (inl j) at (subst (λ (l : List ℕ). Contains l k) is.inputs has);
  }

  pub ending_finishes : (top : List ℕ) (clock : Option (List ℕ)) (netlist : RawNetlist) → IsEnding b top clock ins outs declared netlist → Finishes b design netlist
  ending_finishes top clock netlist e =
      let led : List Register = map (led_register e.to) b.registers in
      let raw : RawNetlist = record netlist { registers = led } in
      let f : Finished b (map (port_of b) ins) (map (port_of b) outs) raw = record {
        to = e.to;
        leads = λ n end. subst (λ (ports : List (List Bit)). LeadsTo (step_of b ports) n end ↔ (e.to n ≡ end)) (sym (bits_ports b ins)) (e.leads n end);
        cells = e.cells;
        inputs = e.inputs;
        outputs = e.outputs;
        registers = refl;
      } in
      let put : ArePut b design led design.registers netlist.registers =
      subst (λ (ks : List ℕ). ArePut b design led ks netlist.registers) (sym is.registers) (registers_put b design e.to is.starts (registers_in b declared) netlist.registers e.registers) in
      ready_finishes b design (map (port_of b) ins) (map (port_of b) outs) raw netlist.registers whole f put
