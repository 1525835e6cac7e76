use Rattle.tb_process.proofs.Common.{◌≡◌, ℕ, List, OnOk, refl, ap, sym, subst, Plan, settled_nets, Setting, Settles, names, setting_of, next_of}
use Rattle.netlist_core.specs.Runs.{bits_at, plain, taken}
use Rattle.tb_settling.specs.Settling.{values_at, whole_updates, IsNetsOf}
use Rattle.tb_process.proofs.settle.settle_nets.Goals as goal

pub returns-clause-settles : goal.returns-clause-settles
returns-clause-settles c = λ tree.
    let b = c.args.parts.now in
    let design = c.args.sim.now.plan.raw in
    let new = c.settle.new.sim in
    let g : Setting = setting_of b tree design in
    let of : IsNetsOf g (names b) c.as_slice-2.result.now c.as_slice-3.result.now b.nets.nodes design = record {
      netlist_is = refl;
      inputs_are = ap values_at (sym c.as_slice-2.ensures);
      outputs_are = ap (λ (ks : List ℕ). whole_updates ks (bits_at design.outputs)) (sym c.as_slice-3.ensures);
      assigns_are = refl;
    } in
    let same : taken (plain (settled_nets new)) 0 design.registers ≡ next_of new = ap (λ (p : Plan). taken (plain (settled_nets new)) 0 p.raw.registers) (sym c.settle.ensures.plan) in
    subst (λ (next : List ℕ). OnOk c.settle.result (Settles g c.args.phase c.args.sim.now.registers c.args.scene.now.store c.settle.new.scene.store next)) same (c.settle.ensures.settles g of)
