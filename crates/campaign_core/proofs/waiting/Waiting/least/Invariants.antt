use Rattle.campaign_core.proofs.Common.{◌*◌, NoneWaits, block_size}
use Rattle.campaign_core.proofs.waiting.Waiting.least.Given as goal

abbrev pub invariant-loop-lead : goal.invariant-loop-lead
invariant-loop-lead l = NoneWaits l.self 0 (block_size * l.lead-index)
