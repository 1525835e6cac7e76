use Rattle.vlog_token.proofs.Common.{◌≡◌, ◌+◌, false, drop, option_map, string_end}
use Rattle.vlog_token.proofs.quoted.string_len.Given as goal

abbrev pub invariant-loop-at : goal.invariant-loop-at
invariant-loop-at l = option_map (λ n. l.at + n) (string_end l.is_escaped (drop l.at l.bytes)) ≡ string_end false l.bytes
