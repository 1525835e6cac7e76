use Rattle.pair_gates.proofs.Common.{length}
use Rattle.pair_gates.proofs.weights.+greatest.Given as goal

abbrev pub decreases-greatest : goal.decreases-greatest
decreases-greatest l = length l.ports.now
