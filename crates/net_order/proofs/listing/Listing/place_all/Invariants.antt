use Rattle.net_order.proofs.Common.{◌≡◌, ℕ, List, drop, Contains, stage_of, IsSized, IsStage, CanBePlaced}
use Rattle.net_order.proofs.listing.Listing.place_all.Given as goal

abbrev pub invariant-loop-c : goal.invariant-loop-c
invariant-loop-c l =
    IsSized (stage_of l.self)
    × (l.self.listed.items ≡ l.initial.self.listed.items)
    × ((graph : List (List ℕ)) → IsStage graph (stage_of l.initial.self) (Contains l.woken) → CanBePlaced graph l.initial.self.listed.items l.woken → IsStage graph (stage_of l.self) (Contains (drop l.c-index l.woken)) × CanBePlaced graph l.self.listed.items (drop l.c-index l.woken))
