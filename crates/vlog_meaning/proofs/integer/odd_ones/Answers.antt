use Rattle.vlog_meaning.proofs.Common.{◌-◌, ◌+◌, arith, sym, ◌∙◌}
use Rattle.vlog_meaning.proofs.Rounds.{parity_round}
use Rattle.vlog_meaning.proofs.integer.odd_ones.Goals as goal

pub loop-preserved : goal.loop-preserved
loop-preserved c = record {
  small = omega arith;
  rest = sym (parity_round c.loop.odd (c.args.width - c.loop.counter) (c.args.width - (c.loop.counter + 1)) c.loop.rest (omega arith)) ∙ c.loop.invariant.rest;
}
