use Rattle.step_trials.proofs.Common.{length}
use Rattle.step_trials.proofs.bits.+lay.Given as goal

abbrev pub decreases-lay : goal.decreases-lay
decreases-lay l = length l.bits.now
