use Rattle.project_lines.proofs.Common.{◌≡◌, ◌^◌, min, take}
use Rattle.project_lines.specs.Numbers.{value}
use Rattle.project_lines.proofs.numbers.value.Given as goal

abbrev pub invariant-loop-digit : goal.invariant-loop-digit
invariant-loop-digit l = l.value ≡ min (value (take l.digit-index l.digits)) (2 ^ 64)
