use Rattle.site_texts.proofs.Common.{◌-◌, ◌≤◌, length, take, IsSolid}
use Rattle.site_texts.proofs.name.front_of.Given as goal

abbrev pub invariant-loop-whole : goal.invariant-loop-whole
invariant-loop-whole l = (l.whole ≤ length l.text) × IsSolid (take l.whole l.text)

abbrev pub decreases-loop-whole : goal.decreases-loop-whole
decreases-loop-whole l = length l.text - l.whole
