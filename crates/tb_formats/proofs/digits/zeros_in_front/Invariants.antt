use Rattle.std.proofs.Common.{◌≡◌, ◌-◌, ◌≤◌, drop, length}
use Rattle.tb_formats.specs.Digits.{significant}
use Rattle.tb_formats.proofs.digits.zeros_in_front.Given as goal

abbrev pub invariant-loop-zeros : goal.invariant-loop-zeros
invariant-loop-zeros l = (l.zeros ≤ length l.digits) × (significant (drop l.zeros l.digits) ≡ significant l.digits)

abbrev pub decreases-loop-zeros : goal.decreases-loop-zeros
decreases-loop-zeros l = length l.digits - l.zeros
