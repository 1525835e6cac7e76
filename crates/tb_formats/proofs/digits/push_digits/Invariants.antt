use Rattle.std.proofs.Common.{◌≡◌, ◌-◌, ◌*◌, ◌/◌, ◌^◌, ◌≤◌, ◌++◌}
use Rattle.tb_formats.specs.Digits.{lowest_digits}
use Rattle.tb_formats.proofs.digits.push_digits.Given as goal

abbrev pub invariant-loop-left : goal.invariant-loop-left
invariant-loop-left l = (l.left ≤ l.count) × (l.text.items ≡ l.fn.text.items ++ lowest_digits (l.count - l.left) (2 ^ l.bits) (l.value / 2 ^ (l.bits * l.left)))

abbrev pub decreases-loop-left : goal.decreases-loop-left
decreases-loop-left l = l.left
