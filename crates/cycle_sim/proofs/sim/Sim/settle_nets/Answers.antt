use Rattle.cycle_sim.proofs.Common.{◌≡◌, ℕ, ◌≤◌, List, length, take, sym, ap, subst, Nets, plain, q_bits, Holds, drivers, FitPorts, driving, Gate, Simulated, nets_of, AllGates, AreReaders}
use Rattle.cycle_sim.proofs.Settling.{settled-holds, settled-alone}
use Rattle.cycle_sim.proofs.sim.Sim.settle_nets.Goals as goal

pub lay_registers-requires-clause-fit : goal.lay_registers-requires-clause-fit
lay_registers-requires-clause-fit c = subst (FitPorts (q_bits c.self.inside.netlist.raw.registers)) (sym c.as_slice-2.ensures.value) c.self.invariant.stored

pub lay_registers-requires-clause-held : goal.lay_registers-requires-clause-held
lay_registers-requires-clause-held c = record { fit = c.self.invariant.numbers; current = c.self.invariant.current }

pub lay_registers-requires-clause-readers : goal.lay_registers-requires-clause-readers
lay_registers-requires-clause-readers c = subst (AreReaders c.self.inside.netlist) (sym c.as_slice.ensures.value) c.self.invariant.reading

pub settle_cells-requires-clause-gates : goal.settle_cells-requires-clause-gates
settle_cells-requires-clause-gates c = subst (λ (g : List Gate). AllGates (driving c.self.inside.netlist.raw) g c.self.inside.netlist.raw.cells) (sym c.as_slice-3.ensures.value) c.self.invariant.gates

pub settle_cells-requires-clause-readers : goal.settle_cells-requires-clause-readers
settle_cells-requires-clause-readers c = subst (AreReaders c.self.inside.netlist) (sym c.as_slice-4.ensures.value) c.self.invariant.reading

pub settle_cells-requires-clause-held : goal.settle_cells-requires-clause-held
settle_cells-requires-clause-held c = c.lay_registers.ensures.held

pub returns-clause-plan : goal.returns-clause-plan
returns-clause-plan c = ap (λ (s : Simulated). s.plan) c.self.view_is

pub returns-clause-registers : goal.returns-clause-registers
returns-clause-registers c = ap (λ (s : Simulated). s.registers) c.self.view_is

pub invariant_of-self : goal.invariant_of-self
invariant_of-self c = record {
  sound = c.self.invariant.sound;
  gates = c.self.invariant.gates;
  next = c.self.invariant.next;
  outputs = c.self.invariant.outputs;
  reading = c.self.invariant.reading;
  numbers = c.settle_cells.ensures.held.fit;
  stored = c.self.invariant.stored;
  current = c.settle_cells.ensures.held.current;
}

pub returns-clause-holds : goal.returns-clause-holds
returns-clause-holds c =
    let plan = c.self.inside.netlist in
    let new : List ℕ = c.settle_cells.new.table.items in
    let holds = settled-holds plan c.self.invariant.sound c.self.inside.table.items c.self.inside.registers.items c.as_slice-2.result.now c.lay_registers.new.table.items new c.self.invariant.numbers c.settle_cells.ensures.held.fit c.self.invariant.stored c.as_slice-2.ensures.value c.lay_registers.ensures.table c.settle_cells.ensures.front c.settle_cells.ensures.computed in
    subst (λ (s : Simulated). Holds (plain (nets_of plan.raw new)) (nets_of plan.raw new) s.plan.raw (take (length s.plan.raw.inputs) s.table) s.registers) c.self.view_is holds

pub returns-clause-alone : goal.returns-clause-alone
returns-clause-alone c =
    let plan = c.self.inside.netlist in
    let new : List ℕ = c.settle_cells.new.table.items in
    let alone = settled-alone plan c.self.invariant.sound c.self.inside.table.items c.self.inside.registers.items c.as_slice-2.result.now c.lay_registers.new.table.items new c.self.invariant.numbers c.settle_cells.ensures.held.fit c.self.invariant.stored c.as_slice-2.ensures.value c.lay_registers.ensures.table c.settle_cells.ensures.front c.settle_cells.ensures.computed c.one_run.ensures.run in
    subst (λ (s : Simulated). (nets : Nets) → Holds (plain nets) nets s.plan.raw (take (length s.plan.raw.inputs) s.table) s.registers → (n : ℕ) → 1 ≤ drivers s.plan.raw n → nets n ≡ nets_of plan.raw new n) c.self.view_is alone
