use Rattle.cycle_sim.proofs.Common.{List, sym, ◌∙◌, subst, length-map, Register, q_bits, FitPorts, nets_of}
use Rattle.cycle_sim.proofs.Plans.{fit-length, fit-taken}
use Rattle.cycle_sim.proofs.sim.Sim.clock.Goals as goal

pub take_all-requires-clause-long : goal.take_all-requires-clause-long
take_all-requires-clause-long c =
    let rs : List Register = c.self.inside.netlist.raw.registers in
    fit-length (q_bits rs) c.self.inside.registers.items c.self.invariant.stored ∙ length-map rs (λ (r : Register). r.q)

pub invariant_of-self : goal.invariant_of-self
invariant_of-self c =
    let raw = c.self.inside.netlist.raw in
    record {
      sound = c.self.invariant.sound;
      gates = c.self.invariant.gates;
      next = c.self.invariant.next;
      outputs = c.self.invariant.outputs;
      reading = c.self.invariant.reading;
      current = c.self.invariant.current;
      numbers = c.self.invariant.numbers;
      stored = subst (FitPorts (q_bits raw.registers)) (sym c.take_all.ensures) (fit-taken (nets_of raw c.as_slice.result.now) 0 raw.registers c.self.invariant.sound.formed.registers);
    }
