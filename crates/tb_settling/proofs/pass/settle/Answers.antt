use Rattle.tb_settling.proofs.Common.{◌≡◌, ℕ, List, length, refl, sym, ap, ◌∙◌, arith, settled_nets, names_of, situation}
use Rattle.tb_settling.proofs.Ending.{settles}
use Rattle.tb_settling.proofs.Passing.{none_settled}
use Rattle.tb_settling.proofs.Turning.{first_ports, first_shows, still_signals, still_entered, still_shown, place_inside, plan_inside, has_side, has_plan, turned}
use Rattle.tb_settling.proofs.pass.settle.Goals as goal

pub loop-place-init : goal.loop-place-init
loop-place-init c = record {
  is = c.has_store.ensures;
  settled = none_settled (situation (names_of c.args.scope.now) c.args.inputs.now c.args.outputs.now c.args.phase c.args.sim.now) c.args.nets.now c.args.scene.now.widths c.requires.can c.requires.signals (first_ports (names_of c.args.scope.now) c.args.inputs.now c.args.outputs.now c.args.phase c.args.sim.now c.args.scene.now c.args.nets.now c.requires.can c.requires.signals c.requires.entered c.requires.shown) (first_shows (names_of c.args.scope.now) c.args.inputs.now c.args.outputs.now c.args.phase c.args.sim.now c.args.scene.now c.args.nets.now c.requires.can c.requires.signals c.requires.entered c.requires.shown) (settled_nets c.args.sim.now) c.args.scene.now.store;
  scene_is = refl;
  plan = refl;
  registers = refl;
}

pub bounds-nodes-place : goal.bounds-nodes-place
bounds-nodes-place c = place_inside (names_of c.args.scope.now) c.args.inputs.now c.args.outputs.now c.args.phase c.args.sim.now c.args.scene.now c.args.nets.now c.requires.can c.requires.signals c.requires.entered c.requires.shown c.loop-place.place-index c.loop-place.sim c.loop-place.scene c.loop-place.invariant c.as_slice-nodes.result.now c.as_slice-place-items.result.now c.as_slice-nodes.ensures c.as_slice-place-items.ensures c.loop-place-test.true

pub bounds-plans-place : goal.bounds-plans-place
bounds-plans-place c = plan_inside (names_of c.args.scope.now) c.args.inputs.now c.args.outputs.now c.args.phase c.args.sim.now c.args.scene.now c.args.nets.now c.requires.can c.requires.signals c.requires.entered c.requires.shown c.loop-place.place-index c.loop-place.sim c.loop-place.scene c.loop-place.invariant c.as_slice-nodes.result.now c.as_slice-place-items.result.now c.as_slice-nodes.ensures c.as_slice-place-items.ensures c.loop-place-test.true c.args.plans.now c.requires.plans

pub settle_node-requires-clause-plan : goal.settle_node-requires-clause-plan
settle_node-requires-clause-plan c = has_plan (names_of c.args.scope.now) c.args.inputs.now c.args.outputs.now c.args.phase c.args.sim.now c.args.scene.now c.args.nets.now c.requires.can c.requires.signals c.requires.entered c.requires.shown c.loop-place.place-index c.loop-place.sim c.loop-place.scene c.loop-place.invariant c.as_slice-nodes.result.now c.as_slice-place-items.result.now c.as_slice-nodes.ensures c.as_slice-place-items.ensures c.loop-place-test.true c.index-nodes-place.result c.index-nodes-place.is c.args.plans.now c.requires.plans c.index-plans-place.result c.index-plans-place.is

pub settle_node-requires-clause-side : goal.settle_node-requires-clause-side
settle_node-requires-clause-side c = has_side (names_of c.args.scope.now) c.args.inputs.now c.args.outputs.now c.args.phase c.args.sim.now c.args.scene.now c.args.nets.now c.requires.can c.requires.signals c.requires.entered c.requires.shown c.loop-place.place-index c.loop-place.sim c.loop-place.scene c.loop-place.invariant c.as_slice-nodes.result.now c.as_slice-place-items.result.now c.as_slice-nodes.ensures c.as_slice-place-items.ensures c.loop-place-test.true c.index-nodes-place.result c.index-nodes-place.is

pub settle_node-requires-clause-signals : goal.settle_node-requires-clause-signals
settle_node-requires-clause-signals c = still_signals (names_of c.args.scope.now) c.args.inputs.now c.args.outputs.now c.args.phase c.args.sim.now c.args.scene.now c.args.nets.now c.requires.can c.requires.signals c.requires.entered c.requires.shown c.loop-place.place-index c.loop-place.sim c.loop-place.scene c.loop-place.invariant

pub settle_node-requires-clause-entered : goal.settle_node-requires-clause-entered
settle_node-requires-clause-entered c = still_entered (names_of c.args.scope.now) c.args.inputs.now c.args.outputs.now c.args.phase c.args.sim.now c.args.scene.now c.args.nets.now c.requires.can c.requires.signals c.requires.entered c.requires.shown c.loop-place.place-index c.loop-place.sim c.loop-place.scene c.loop-place.invariant

pub settle_node-requires-clause-shown : goal.settle_node-requires-clause-shown
settle_node-requires-clause-shown c = still_shown (names_of c.args.scope.now) c.args.inputs.now c.args.outputs.now c.args.phase c.args.sim.now c.args.scene.now c.args.nets.now c.requires.can c.requires.signals c.requires.entered c.requires.shown c.loop-place.place-index c.loop-place.sim c.loop-place.scene c.loop-place.invariant

pub loop-place-preserved : goal.loop-place-preserved
loop-place-preserved c = turned (names_of c.args.scope.now) c.args.inputs.now c.args.outputs.now c.args.phase c.args.sim.now c.args.scene.now c.args.nets.now c.requires.can c.requires.signals c.requires.entered c.requires.shown c.loop-place.place-index c.loop-place.sim c.loop-place.scene c.loop-place.invariant c.as_slice-nodes.result.now c.as_slice-place-items.result.now c.as_slice-nodes.ensures c.as_slice-place-items.ensures c.loop-place-test.true c.index-nodes-place.result c.index-nodes-place.is c.settle_node.new.sim c.settle_node.new.scene c.in_ok-settle_node.ensures.cycle c.in_ok-settle_node.ensures.scene c.in_ok-settle_node.ensures.other c.in_ok-settle_node.ensures.plan c.in_ok-settle_node.ensures.registers c.has_store-in-loop-place.ensures

pub returns-clause-settles : goal.returns-clause-settles
returns-clause-settles c =
    let p = c.loop-place.invariant in
    let long : length c.loop-place.scene.store ≡ length c.args.scene.now.store = p.is.long ∙ ap (λ (l : List ℕ). length l) (ap (λ w. w.widths) p.scene_is) ∙ sym c.has_store.ensures.long in
    settles (situation (names_of c.args.scope.now) c.args.inputs.now c.args.outputs.now c.args.phase c.args.sim.now) c.args.nets.now c.args.scene.now.widths c.requires.can (settled_nets c.loop-place.sim) c.args.scene.now.store c.loop-place.scene.store long c.loop-place.place-index (omega (arith, c.loop-place-test.false, ap (λ (l : List ℕ). length l) c.as_slice-place-items.ensures)) p.settled
