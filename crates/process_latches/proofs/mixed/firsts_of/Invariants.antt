use Rattle.process_latches.proofs.Common.{HasFirsts}
use Rattle.process_latches.proofs.Latching.{passed}
use Rattle.process_latches.proofs.mixed.firsts_of.Given as goal

abbrev pub invariant-loop-passed : goal.invariant-loop-passed
invariant-loop-passed l = HasFirsts (passed l.writes l.passed) l.is_blocking l.firsts
