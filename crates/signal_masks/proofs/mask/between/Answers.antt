use Rattle.signal_masks.proofs.Common.{arith}
use Rattle.std.proofs.Math.Pow.{pow_mono}
use Rattle.signal_masks.proofs.Bits.{has_between}
use Rattle.signal_masks.proofs.mask.between.Goals as goal

pub overflow_sub-result : goal.overflow_sub-result
overflow_sub-result c = let more = pow_mono c.requires.order in rw (c.below.ensures, c.below-2.ensures) (omega arith)

pub returns : goal.returns
returns c = λ i. rw (c.below.ensures, c.below-2.ensures) (has_between c.args.low c.args.high i)
