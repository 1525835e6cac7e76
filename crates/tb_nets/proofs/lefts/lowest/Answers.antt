use Rattle.tb_nets.proofs.Bits.{lowest_bits}
use Rattle.tb_nets.proofs.lefts.lowest.Goals as goal

pub returns : goal.returns
returns c = λ i. rw c.below.ensures (lowest_bits c.args.width i)
