use Rattle.flat_assigns.proofs.Common.{◌≡◌, ◌<◌, length, arith}
use Rattle.flat_assigns.proofs.Joins.{port_step}
use Rattle.flat_assigns.proofs.joining.join_port.Goals as goal

pub loop-k-preserved : goal.loop-k-preserved
loop-k-preserved c =
    let less : c.loop-k.k < length c.args.bits.now = omega (arith, c.requires.enough, c.loop-k-test.true) in
    let same : c.from.result ≡ c.loop-k.k = cc in
    port_step c.args.builder.now c.loop-k.builder c.join_bit.new.builder c.args.port c.loop-k.k c.from.result c.in_ok-join_bit.ensures.0 c.args.bits.now _ same less c.loop-k.invariant c.in_ok-join_bit.ensures.1 c.in_ok-join_bit.ensures.2
