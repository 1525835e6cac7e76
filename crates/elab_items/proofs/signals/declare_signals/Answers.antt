use Rattle.elab_items.proofs.Common.{refl, arith}
use Rattle.elab_items.proofs.Declaring.{begun, left_last, left_more}
use Rattle.elab_items.proofs.Standing.{rest_is}
use Rattle.elab_items.proofs.signals.declare_signals.Goals as goal

pub loop-rest-preserved : goal.loop-rest-preserved
loop-rest-preserved c =
    let split = rest_is c.loop-rest.rest.now c.signal-item.result _ c.in-len1-up.len_at_least c.signal-item.is refl in
    left_more c.args.signals.now c.loop-rest.rest.now _ c.loop-rest.builder c.declare.new.builder c.signal-item.result split c.in_ok-declare.ensures.declared c.in_ok-declare.ensures.fits c.loop-rest.invariant.0 c.loop-rest.invariant.1 c.loop-rest.invariant.2

pub returns-clause-begins : goal.returns-clause-begins
returns-clause-begins c = λ design widths registers.
    let done = left_last c.args.signals.now c.loop-rest.rest.now c.loop-rest.builder (omega (arith, c.in_default.len_below)) c.loop-rest.invariant.1 c.loop-rest.invariant.2 c.loop-rest.invariant.3 in
    begun c.args.signals.now c.loop-rest.builder design c.requires done.0 widths registers

pub returns-clause-fits : goal.returns-clause-fits
returns-clause-fits c =
    (left_last c.args.signals.now c.loop-rest.rest.now c.loop-rest.builder (omega (arith, c.in_default.len_below)) c.loop-rest.invariant.1 c.loop-rest.invariant.2 c.loop-rest.invariant.3).1
