use Rattle.process_latches.proofs.Common.{names_of, steps_of, sound}
use Rattle.process_latches.proofs.Choosing.{own_marks}
use Rattle.process_latches.proofs.latches.latch_of.Goals as goal

pub returns-clause-latch : goal.returns-clause-latch
returns-clause-latch c =
    let s = sound (steps_of c.args.body.now (names_of c.args.scope.now)) in
    c.latch_in.ensures s (own_marks s c.new-marks.result c.mark.new.marks c.new-marks.ensures c.in_ok-mark.ensures.marked)
