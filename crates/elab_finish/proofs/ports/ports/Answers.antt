use Rattle.elab_finish.proofs.Common.{get_or}
use Rattle.elab_finish.proofs.Joined.{same_there}
use Rattle.elab_finish.proofs.Orders.{known_at}
use Rattle.elab_finish.proofs.ports.ports.Goals as goal

pub port-requires : goal.port-requires
port-requires c =
    let ks = c.args.numbers.now in
    let k = c.loop-number.number-index in
    known_at c.args.builder.now ks k (get_or ks k 0) (same_there ks k 0 (get_or ks k 0) c.loop-number-test.true) c.requires c.loop-number-test.true
