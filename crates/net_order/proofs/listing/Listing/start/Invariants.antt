use Rattle.net_order.proofs.Common.{◌≡◌, ◌≤◌, [], map, stage_of, IsStage}
use Rattle.net_order.proofs.listing.Listing.start.Given as goal

abbrev pub invariant-loop-c : goal.invariant-loop-c
invariant-loop-c l = IsStage (map (λ v. v.items) l.fn.reads.items) (stage_of l.listing) (λ x. l.c ≤ x) × ((stage_of l.listing).order ≡ [])
