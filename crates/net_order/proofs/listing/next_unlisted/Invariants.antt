use Rattle.net_order.proofs.Common.{◌≡◌, ℕ, true, ◌⊎◌, length, Contains, is_listed}
use Rattle.net_order.proofs.listing.next_unlisted.Given as goal

abbrev pub invariant-loop-d : goal.invariant-loop-d
invariant-loop-d l =
    ((d : ℕ) → Contains l.reads.items d → Contains l.initial.reads.items d) × ((d : ℕ) → Contains l.initial.reads.items d → (is_listed l.listed d ≡ true) ⊎ Contains l.reads.items d)

abbrev pub decreases-loop-d : goal.decreases-loop-d
decreases-loop-d l = length l.reads.items
