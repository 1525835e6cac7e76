use Rattle.campaign_core.proofs.Common.{NoneWaits}
use Rattle.campaign_core.proofs.waiting.lead.Given as goal

abbrev pub invariant-loop-mutation : goal.invariant-loop-mutation
invariant-loop-mutation l = NoneWaits l.wants l.start l.mutation
