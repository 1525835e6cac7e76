use Rattle.tb_machine.proofs.Common.{◌≡◌, ◌∙◌, ◌<◌, refl, arith, length, All-set, Pauses, Finished, TooLong, woken, Tree, tree_of, suspended, all_suspended, StackBelow}
use Rattle.tb_machine.proofs.Wakes.{ran_pauses, ran_finished, ran_too_long, next_pauses, next_finished, next_too_long, suspended-at, suspended-length, suspended-set, all_gone}
use Rattle.tb_machine.proofs.wake.wake_all.Goals as goal

pub returns-in-Finished-clause-ran : goal.returns-in-Finished-clause-ran
returns-in-Finished-clause-ran g c = λ trees code.
    let tree : Tree = tree_of trees in
    let m = g.E.Evaluator.meaning c.args.evaluator.now in
    let nodes = c.args.nodes.now in
    let ss = all_suspended nodes tree c.loop-i.processes in
    let p = c.index-processes-i.result in
    let long : length ss ≡ length c.loop-i.processes = suspended-length nodes tree c.loop-i.processes in
    let within : c.loop-i.i < length c.loop-i.processes = omega arith in
    let comes : woken m c.args.event c.loop-i.left (suspended nodes tree p) c.loop-i.scene ≡ Finished c.wake.new.scene = ran_finished nodes tree c.wake.new.left c.wake.new.process c.wake.new.scene (woken m c.args.event c.loop-i.left (suspended nodes tree p) c.loop-i.scene) (rw (c.in-Finished.is, ← c.index-processes-i.is) at (c.in_ok-wake.ensures.ran trees code)) in
    rw (c.loop-i.invariant.ran trees code, next_finished m c.args.event c.loop-i.left ss c.loop-i.i (suspended nodes tree p) c.loop-i.scene c.wake.new.scene (omega arith) (suspended-at nodes tree c.loop-i.processes c.loop-i.i p within c.index-processes-i.is) comes) refl

pub returns-in-TooLong-clause-ran : goal.returns-in-TooLong-clause-ran
returns-in-TooLong-clause-ran g c = λ trees code.
    let tree : Tree = tree_of trees in
    let m = g.E.Evaluator.meaning c.args.evaluator.now in
    let nodes = c.args.nodes.now in
    let ss = all_suspended nodes tree c.loop-i.processes in
    let p = c.index-processes-i.result in
    let long : length ss ≡ length c.loop-i.processes = suspended-length nodes tree c.loop-i.processes in
    let within : c.loop-i.i < length c.loop-i.processes = omega arith in
    let comes : woken m c.args.event c.loop-i.left (suspended nodes tree p) c.loop-i.scene ≡ TooLong c.wake.new.scene = ran_too_long nodes tree c.wake.new.left c.wake.new.process c.wake.new.scene (woken m c.args.event c.loop-i.left (suspended nodes tree p) c.loop-i.scene) (rw (c.in-TooLong.is, ← c.index-processes-i.is) at (c.in_ok-wake.ensures.ran trees code)) in
    rw (c.loop-i.invariant.ran trees code, next_too_long m c.args.event c.loop-i.left ss c.loop-i.i (suspended nodes tree p) c.loop-i.scene c.wake.new.scene (omega arith) (suspended-at nodes tree c.loop-i.processes c.loop-i.i p within c.index-processes-i.is) comes) refl

pub loop-i-preserved : goal.loop-i-preserved
loop-i-preserved g c = record {
  ran = λ trees code.
      let tree : Tree = tree_of trees in
      let m = g.E.Evaluator.meaning c.args.evaluator.now in
      let nodes = c.args.nodes.now in
      let ss = all_suspended nodes tree c.loop-i.processes in
      let p = c.index-processes-i.result in
      let q = c.wake.new.process in
      let long : length ss ≡ length c.loop-i.processes = suspended-length nodes tree c.loop-i.processes in
      let within : c.loop-i.i < length c.loop-i.processes = omega arith in
      let comes : woken m c.args.event c.loop-i.left (suspended nodes tree p) c.loop-i.scene ≡ Pauses c.wake.new.left (suspended nodes tree q) c.wake.new.scene = ran_pauses nodes tree c.wake.new.left q c.wake.new.scene (woken m c.args.event c.loop-i.left (suspended nodes tree p) c.loop-i.scene) (rw (c.in-Pauses.is, ← c.index-processes-i.is) at (c.in_ok-wake.ensures.ran trees code)) in
      rw (suspended-set nodes tree c.loop-i.processes c.loop-i.i q) (c.loop-i.invariant.ran trees code ∙ next_pauses m c.args.event c.loop-i.left c.wake.new.left ss c.loop-i.i (suspended nodes tree p) (suspended nodes tree q) c.loop-i.scene c.wake.new.scene (omega arith) (suspended-at nodes tree c.loop-i.processes c.loop-i.i p within c.index-processes-i.is) comes);
  below = All-set (StackBelow (length c.args.nodes.now)) c.loop-i.processes c.loop-i.i c.wake.new.process c.in_ok-wake.ensures.below c.loop-i.invariant.below;
  serves = c.in_ok-wake.ensures.serves;
}

pub returns-clause-ran : goal.returns-clause-ran
returns-clause-ran g c = λ trees code.
    let tree : Tree = tree_of trees in
    let nodes = c.args.nodes.now in
    let ss = all_suspended nodes tree c.loop-i.processes in
    let long : length ss ≡ length c.loop-i.processes = suspended-length nodes tree c.loop-i.processes in
    rw (c.loop-i.invariant.ran trees code, all_gone (g.E.Evaluator.meaning c.args.evaluator.now) c.args.event c.loop-i.left ss c.loop-i.i c.loop-i.scene (omega arith)) (refl, refl, refl)
