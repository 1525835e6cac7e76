use Rattle.proc_muxes.proofs.Common.{rules}
use Rattle.proc_muxes.proofs.Labelling.{kept_skip}
use Rattle.proc_muxes.proofs.matching.kept.Goals as goal

pub loop-bit-preserved-then-is_ignored : goal.loop-bit-preserved-then-is_ignored
loop-bit-preserved-then-is_ignored c = kept_skip c.args.ignored c.args.bits.now c.loop-bit.found.items c.loop-bit.bit-index c.loop-bit.rest (search rules) (search rules) c.loop-bit.invariant
