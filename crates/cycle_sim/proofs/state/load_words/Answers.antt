use Rattle.cycle_sim.proofs.Common.{◌∙◌, length-set}
use Rattle.cycle_sim.proofs.Lists.{copied}
use Rattle.cycle_sim.proofs.state.load_words.Goals as goal

pub loop-i-preserved : goal.loop-i-preserved
loop-i-preserved c = (
  length-set c.loop-i.registers.items c.loop-i.i c.bits.result ∙ c.loop-i.invariant.0,
  rw c.bits.ensures.bits (copied c.loop-i.i c.args.words.now c.index-words-i.result c.loop-i.registers.items c.args.registers.now.items c.loop-i.invariant.1 c.requires c.loop-i-test.true c.index-words-i.is),
)
