use Rattle.vlog_token.proofs.Common.{◌≡◌, ◌^◌, min, take, decimal_value}
use Rattle.vlog_token.proofs.numeral.decimal_value.Given as goal

abbrev pub invariant-loop-b : goal.invariant-loop-b
invariant-loop-b l = l.value ≡ min (decimal_value (take l.b-index l.bytes)) (2 ^ 32)
