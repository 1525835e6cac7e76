use Rattle.process_latches.proofs.Common.{◌∙◌, sym, ap, add-one, arith, option_map, first_latch, target_of}
use Rattle.process_latches.proofs.Latching.{passed, passed_none, passed_more, latch_is}
use Rattle.process_latches.proofs.latches.first_latch.Goals as goal

pub loop-passed-init : goal.loop-passed-init
loop-passed-init c = λ s own. sym (ap (first_latch s) (passed_none c.as_slice-writes.result.now))

pub loop-passed-preserved : goal.loop-passed-preserved
loop-passed-preserved c = λ s own.
    let ws = c.as_slice-writes.result.now in
    rw add-one (c.or_latch-found.ensures s own (passed ws c.loop-passed.passed) (c.loop-passed.invariant s own) ∙ ap (first_latch s) (sym (passed_more ws c.loop-passed.passed c.from_end-write.result c.from_end-write.ensures (omega arith))))

pub returns : goal.returns
returns c = λ s own. latch_is s c.args.marks.now c.as_slice-writes.result.now c.loop-passed.passed (option_map target_of c.loop-passed.found) c.as_slice-writes.ensures.value (omega arith) (c.loop-passed.invariant s own) own
