-- The netlist of a builder with its registers put in order.
use Rattle.elab_finish.proofs.Common.{◌≡◌, ◌≤◌, ◌↔◌, ℕ, List, map, Option, sym, ◌∙◌, ap, subst, Bit, Register, RawNetlist, bits_at, q_bits, times_at, Building, LeadsTo, step_of, led_port, Finished}
use Rattle.elab_finish.proofs.Common.{Left, CanFinish, IsEnding, port_of, registers_in, AreSlots, AreFilled}
use Rattle.netlist_core.specs.declared.port.Port.{Port}
use Rattle.elab_finish.proofs.Finishing.{bits_ports}
use Rattle.elab_finish.proofs.Registering.{register_in, led_q, registers_filled}

-- no net is a bit of two registers of what was finished
pub apart_led : (b : Building) (ins outs declared : List ℕ) (lefts : List Left) → CanFinish b ins outs declared lefts → (entered shown : List Port) (raw : RawNetlist) → Finished b entered shown raw → (n : ℕ) → times_at n (q_bits raw.registers) ≤ 1
apart_led b ins outs declared lefts can entered shown raw f n =
    let same : q_bits raw.registers ≡ q_bits b.registers = ap q_bits f.registers ∙ led_q f.to b.registers in
    subst (λ (qs : List (List Bit)). times_at n qs ≤ 1) (sym same) (can.writers.apart n)

pub ended : (b : Building) (name : List ℕ) (clocked : Option (List ℕ)) (ins outs declared : List ℕ) (lefts : List Left) → CanFinish b ins outs declared lefts → (entered shown : List Port) → entered ≡ map (port_of b) ins → shown ≡ map (port_of b) outs
    → (raw : RawNetlist) → raw.top ≡ name → raw.clock ≡ clocked → Finished b entered shown raw → (slots rs : List Register) → AreSlots b (registers_in b declared) slots → AreFilled raw.registers slots rs → IsEnding b name clocked ins outs declared (record raw { registers = rs })
ended b name clocked ins outs declared lefts can entered shown in_is out_is raw named clock_is f slots rs are filled = record {
  top = named;
  clock = clock_is;
  to = f.to;
  leads = λ n end. subst (λ (ports : List (List Bit)). LeadsTo (step_of b ports) n end ↔ (f.to n ≡ end)) (ap bits_at in_is ∙ bits_ports b ins) (f.leads n end);
  cells = f.cells;
  inputs = f.inputs ∙ in_is;
  outputs = f.outputs ∙ ap (map (led_port f.to)) out_is;
  registers = registers_filled b ins can.own can.writers f.to raw.registers f.registers (registers_in b declared) slots rs (λ k has. (register_in b declared k has).1) are filled;
}
