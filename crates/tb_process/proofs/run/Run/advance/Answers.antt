use Rattle.tb_process.proofs.Common.{◌≡◌, ◌+◌, List, length, ap, sym, subst, arith, with_items_is, Process, IsCode, tree_of, State, Parts, Running, Follows, running}
use Rattle.std.specs.Vec.{with_items}
use Rattle.tb_process.proofs.Following.{advanced}
use Rattle.tb_process.proofs.run.Run.advance.Goals as goal

pub returns-clause-phase : goal.returns-clause-phase
returns-clause-phase c = λ trees s code stands.
    let b = c.args.bench.now in
    let held = c.self.inside in
    let ps = c.run_phase.new.initial in
    let shown : Running = record { phase = held.phase; sim = held.sim; scene = held.scene; initial = held.initial.items; is_refused = held.is_refused } in
    let here : IsCode c.parts.result.now.code trees = subst (λ (p : Parts). IsCode p.code trees) (sym c.parts.ensures.value) code in
    let long : length ps ≡ held.initial.len = omega (arith, c.run_phase.auto.initial, ap length c.deref_mut.ensures.value, held.initial.ok.0) in
    let kept : (with_items held.initial ps).items ≡ ps = with_items_is held.initial ps long in
    subst (λ (l : List Process). (t : State) × Follows b (tree_of trees) c.args.self.now.sim.plan.raw s c.in_ok-end.end (running (held.phase + 1) c.run_phase.new.sim c.run_phase.new.scene l) t) (sym kept) (advanced b c.parts.result.now (tree_of trees) s c.args.self.now shown (running (held.phase + 1) c.run_phase.new.sim c.run_phase.new.scene ps) c.deref_mut.result.now c.in_ok-end.end c.parts.ensures.value c.self.view_is c.deref_mut.ensures.value (c.in_ok-end.ensures.phase trees s here) stands)
