use Rattle.process_latches.proofs.Common.{◌≡◌, option_map, Steps, first_latch, IsOwn, target_of}
use Rattle.process_latches.proofs.Latching.{passed}
use Rattle.process_latches.proofs.latches.first_latch.Given as goal

abbrev pub invariant-loop-passed : goal.invariant-loop-passed
invariant-loop-passed l = (s : Steps) → IsOwn s l.marks → option_map target_of l.found ≡ first_latch s (passed l.writes l.passed)
