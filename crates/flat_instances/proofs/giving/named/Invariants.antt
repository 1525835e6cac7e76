use Rattle.flat_instances.proofs.Common.{◌≡◌, [], drop, with_gift, named_gifts, gift_in}
use Rattle.flat_instances.proofs.giving.named.Given as goal

abbrev pub invariant-loop-connection : goal.invariant-loop-connection
invariant-loop-connection l = with_gift (gift_in l.giving) (named_gifts l.known l.seen.items (drop l.connection-index l.connections)) ≡ named_gifts l.known [] l.connections
