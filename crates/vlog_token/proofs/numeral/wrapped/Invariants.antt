use Rattle.vlog_token.proofs.Common.{◌≡◌, ◌^◌, ◌%◌, take, plane_digit, positional}
use Rattle.vlog_token.proofs.numeral.wrapped.Given as goal

abbrev pub invariant-loop-b : goal.invariant-loop-b
invariant-loop-b l = l.sum ≡ positional (plane_digit l.plane l.radix) l.radix l.initial.sum (take l.b-index l.digits) % 2 ^ 128
