use Rattle.std.proofs.Common.{◌≡◌, ◌+◌, ◌^◌, min, take}
use Rattle.project_lines.specs.Numbers.{value}
use Rattle.report_lines.proofs.words.capped.Given as goal

abbrev pub invariant-loop-digit : goal.invariant-loop-digit
invariant-loop-digit l = l.value ≡ min (value (take l.digit-index l.digits)) (10 ^ 12 + 1)
