use Rattle.tb_settling.proofs.Common.{◌≡◌, drop, bits_at, plain, shown, settled_nets, assigned, whole_updates}
use Rattle.tb_settling.proofs.design.show_all.Given as goal

abbrev pub invariant-loop-port : goal.invariant-loop-port
invariant-loop-port l =
    (assigned l.scene (drop l.port (whole_updates l.outputs (bits_at l.sim.plan.raw.outputs) (shown (plain (settled_nets l.sim)) l.sim.plan.raw))) ≡ assigned l.initial.scene (whole_updates l.outputs (bits_at l.sim.plan.raw.outputs) (shown (plain (settled_nets l.sim)) l.sim.plan.raw)))
    × (l.scene.widths ≡ l.initial.scene.widths)
