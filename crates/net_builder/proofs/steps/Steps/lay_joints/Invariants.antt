use Rattle.net_builder.proofs.Common.{◌≡◌, ◌≤◌, length, drop, next_in, after_joints}
use Rattle.net_builder.proofs.steps.Steps.lay_joints.Given as goal

abbrev pub invariant-loop-left : goal.invariant-loop-left
invariant-loop-left l = (next_in l.self ≡ after_joints (drop l.left l.joints) (next_in l.initial.self)) × (l.left ≤ length l.joints)

abbrev pub decreases-loop-left : goal.decreases-loop-left
decreases-loop-left l = l.left
