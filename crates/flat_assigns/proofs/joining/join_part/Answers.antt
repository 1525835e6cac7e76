use Rattle.flat_assigns.proofs.Common.{◌≡◌, ◌+◌, ◌<◌, length, arith}
use Rattle.flat_assigns.proofs.Steps.{part_step}
use Rattle.flat_assigns.proofs.joining.join_part.Goals as goal

pub loop-k-preserved : goal.loop-k-preserved
loop-k-preserved c =
    let less : c.args.at + c.loop-k.k < length c.args.bits.now = omega (arith, c.requires.enough, c.loop-k-test.true) in
    let same : c.from.result ≡ c.loop-k.k = cc in
    part_step c.args.builder.now c.loop-k.builder c.join_part_bit.new.builder c.args.slice c.loop-k.k c.from.result c.args.at c.args.bits.now _ same less c.loop-k.invariant c.in_ok-join_part_bit.ensures
