use Rattle.cycle_sim.proofs.Common.{sym, subst, q_bits, IsSound, FitPorts, driving}
use Rattle.cycle_sim.proofs.Plans.{fit-zeros, fit-starts}
use Rattle.cycle_sim.proofs.sim.Sim.new.Goals as goal

pub invariant_of-result : goal.invariant_of-result
invariant_of-result c =
    let raw = c.args.netlist.raw in
    let sound : IsSound c.args.netlist = c.raw-parts.ensures.sound in
    record {
      sound = sound;
      gates = c.in_ok-wiring.ensures.gates;
      next = c.in_ok-wiring.ensures.next;
      outputs = c.in_ok-wiring.ensures.outputs;
      reading = c.in_ok-wiring.ensures.readers;
      numbers = subst (FitPorts (driving raw)) (sym c.in_ok-numbers.ensures.zeros) (fit-zeros (driving raw));
      stored = subst (FitPorts (q_bits raw.registers)) (sym c.in_ok-numbers.ensures.starts) (fit-starts raw.registers sound.formed.registers);
      current = c.in_ok-numbers.ensures.marks c.in_ok-numbers.numbers.table.items;
    }
