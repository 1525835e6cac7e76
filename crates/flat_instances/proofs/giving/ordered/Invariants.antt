use Rattle.flat_instances.proofs.Common.{◌≡◌, drop, with_gift, ordered_gifts, gift_in}
use Rattle.flat_instances.proofs.giving.ordered.Given as goal

abbrev pub invariant-loop-place : goal.invariant-loop-place
invariant-loop-place l = with_gift (gift_in l.giving) (ordered_gifts (drop l.place l.known) (drop l.place l.values)) ≡ ordered_gifts l.known l.values
