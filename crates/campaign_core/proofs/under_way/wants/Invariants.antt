use Rattle.campaign_core.proofs.Common.{◌≡◌, wanted, each_from}
use Rattle.campaign_core.proofs.under_way.wants.Given as goal

abbrev pub invariant-loop-mutation : goal.invariant-loop-mutation
invariant-loop-mutation l = l.wants.items ≡ each_from (λ m. wanted l.campaign l.state.rows m l.goal) 0 l.mutation
