use Rattle.site_texts.proofs.Common.{◌≡◌, ◌-◌, ◌≤◌, length, take}
use Rattle.site_texts.proofs.choice.same_front.Given as goal

abbrev pub invariant-loop-same : goal.invariant-loop-same
invariant-loop-same l = (l.same ≤ length l.a) × (l.same ≤ length l.b) × (take l.same l.a ≡ take l.same l.b)

abbrev pub decreases-loop-same : goal.decreases-loop-same
decreases-loop-same l = length l.a - l.same
