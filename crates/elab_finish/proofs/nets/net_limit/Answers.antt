use Rattle.elab_finish.proofs.Common.{◌≡◌, ◌<◌, ℕ, List, slice_get, Some, subst, arith, Bit, Net}
use Rattle.elab_finish.proofs.Joined.{limit_step, bit_known}
use Rattle.elab_finish.proofs.nets.net_limit.Goals as goal

pub loop-number-preserved : goal.loop-number-preserved
loop-number-preserved c = record {
  signals = limit_step c.args.builder.now c.loop-number.number c.loop-number.limit c.above-limit.result c.loop-number.invariant.signals c.above-limit.ensures.least (subst (λ (bits : List Bit). (i n : ℕ) → slice_get bits i ≡ Some (Net n) → n < c.above-limit.result) c.bits.ensures c.above-limit.ensures.bits);
  few = c.above-limit.ensures.few;
}

pub returns-clause-signals : goal.returns-clause-signals
returns-clause-signals c = λ k i n at. c.loop-number.invariant.signals k i n (let known = bit_known c.args.builder.now k i n at in omega (arith, known, c.signal_count-number-end.ensures.signals, c.loop-number-test.false)) at
