use Rattle.net_order.proofs.Common.{map, stage_of, IsStage, none_left, unfound}
use Rattle.net_order.proofs.listing.Listing.of.Given as goal

abbrev pub invariant-loop-c : goal.invariant-loop-c
invariant-loop-c l = IsStage (map (λ v. v.items) l.fn.reads.items) (stage_of l.listing) none_left

abbrev pub decreases-loop-c : goal.decreases-loop-c
decreases-loop-c l = unfound l.listing.listed.items
