use Rattle.tb_process.proofs.Common.{◌≡◌, ℕ, List, OnOk, ap, sym, subst, Plan, World, all_applied, Settles, setting_of, next_of}
use Rattle.tb_process.proofs.settle.end_phase.Goals as goal

pub returns-clause-settles : goal.returns-clause-settles
returns-clause-settles c = λ tree.
    let b = c.args.parts.now in
    let r = c.settle_nets.result in
    let after = c.settle_nets.new.scene.store in
    let next = next_of c.settle_nets.new.sim in
    let phase = c.args.phase in
    let store : c.assign_scheduled.new.self.store ≡ all_applied c.args.scene.now.store c.args.scene.now.updates = ap (λ (w : World). w.store) c.assign_scheduled.ensures in
    let one = c.settle_nets.ensures.settles tree in
    let two = subst (λ (s : List ℕ). OnOk r (Settles (setting_of b tree c.clock_registers.new.sim.plan.raw) phase c.clock_registers.new.sim.registers s after next)) store one in
    let three = subst (λ (p : Plan). OnOk r (Settles (setting_of b tree p.raw) phase c.clock_registers.new.sim.registers (all_applied c.args.scene.now.store c.args.scene.now.updates) after next)) c.clock_registers.ensures.plan two in
    subst (λ (rs : List ℕ). OnOk r (Settles (setting_of b tree c.args.sim.now.plan.raw) phase rs (all_applied c.args.scene.now.store c.args.scene.now.updates) after next)) (sym c.settle_nets.ensures.registers) three
