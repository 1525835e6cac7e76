use Rattle.net_order.proofs.Common.{◌<◌, length, arith, Stage, stage_of}
use Rattle.net_order.proofs.Staged.{stage-step, step-sized, stage-none}
use Rattle.net_order.proofs.listing.Listing.place_all.Goals as goal

pub loop-c-preserved : goal.loop-c-preserved
loop-c-preserved c =
    let s : Stage = stage_of c.loop-c.self in
    let t : Stage = stage_of c.place.new.self in
    let inside : c.loop-c.c-index < length c.args.woken.now = omega (arith, c.loop-c-test.true) in
    let kept = step-sized s t c.args.self.now.listed.items c.args.woken.now c.loop-c.c-index _ inside c.requires.nodes c.loop-c.invariant.1 c.loop-c.invariant.0 c.in_ok-place.ensures in
    (kept.0, kept.1, λ graph h can. (let now = c.loop-c.invariant.2 graph h can in stage-step graph s t c.args.woken.now c.loop-c.c-index _ inside now.1 c.in_ok-place.ensures now.0))

pub returns-clause-stage : goal.returns-clause-stage
returns-clause-stage c = λ graph h can. stage-none graph (stage_of c.loop-c.self) c.args.woken.now c.loop-c.c-index (omega (arith, c.loop-c-test.false)) (c.loop-c.invariant.2 graph h can).0
