use Rattle.elab_finish.proofs.Common.{arith, slice_get_within, Net}
use Rattle.elab_finish.proofs.Joined.{same_there, above_step}
use Rattle.elab_finish.proofs.nets.above.Goals as goal

pub loop-bit-preserved : goal.loop-bit-preserved
loop-bit-preserved c = record {
  bits = above_step c.args.bits.now c.loop-bit.bit-index _ c.loop-bit.limit c.above_bit-limit.result (same_there c.args.bits.now c.loop-bit.bit-index _ _ c.loop-bit-test.true) c.loop-bit-test.true c.loop-bit.invariant.bits c.above_bit-limit.ensures.least c.above_bit-limit.ensures.net;
  least = omega (arith, c.loop-bit.invariant.least, c.above_bit-limit.ensures.least);
  few = c.above_bit-limit.ensures.few;
}

pub returns-clause-bits : goal.returns-clause-bits
returns-clause-bits c = λ i n e. c.loop-bit.invariant.bits i n (let within = slice_get_within c.args.bits.now i (Net n) e in omega (arith, within, c.loop-bit-test.false)) e
