use Rattle.process_latches.proofs.Common.{option_map, target_of}
use Rattle.process_latches.proofs.Latching.{latch_stopped, latch_free}
use Rattle.process_latches.proofs.latches.latch_in.Goals as goal

pub returns-then-marks : goal.returns-then-marks
returns-then-marks c = λ s own. latch_stopped s c.args.marks.now c.if-marks.true own

pub returns : goal.returns
returns c = λ s own. latch_free s c.args.marks.now (option_map target_of c.first_latch.result) c.if-marks.false (c.first_latch.ensures s own) own
