use Rattle.vlog_expand.proofs.Common.{◌≡◌, drop, fault_in}
use Rattle.vlog_expand.proofs.reading.fault_in.Given as goal

abbrev pub invariant-loop-token : goal.invariant-loop-token
invariant-loop-token l = fault_in l.text ≡ fault_in (drop l.token-index l.text)
