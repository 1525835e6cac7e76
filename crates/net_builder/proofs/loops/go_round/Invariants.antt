use Rattle.net_builder.proofs.Common.{◌≡◌, ◌⊎◌, ℕ, true, IsOnLoop, next_in, seen_in, IsRound}
use Rattle.net_builder.proofs.Circling.{unseen}
use Rattle.net_builder.proofs.loops.go_round.Given as goal

abbrev pub invariant-loop-seen : goal.invariant-loop-seen
invariant-loop-seen l = IsOnLoop (next_in l.steps) l.net × IsOnLoop (next_in l.steps) l.found × IsRound (next_in l.steps) l.seen.items l.found (λ k. l.net ≡ k) × ((l.from ≡ l.net) ⊎ (seen_in l.seen.items l.from ≡ true)) × ((n : ℕ) → seen_in l.initial.seen.items n ≡ true → seen_in l.seen.items n ≡ true)

abbrev pub decreases-loop-seen : goal.decreases-loop-seen
decreases-loop-seen l = unseen l.seen.items
