use Rattle.vlog_token.proofs.Common.{◌≡◌, ◌++◌, false, drop, unescaped}
use Rattle.vlog_token.proofs.quoted.unescape.Given as goal

abbrev pub invariant-loop-b : goal.invariant-loop-b
invariant-loop-b l = l.bytes.items ++ unescaped l.is_escaped (drop l.b-index l.body) ≡ unescaped false l.body
