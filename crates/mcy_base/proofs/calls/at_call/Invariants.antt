use Rattle.std.proofs.Common.{◌≡◌, Some, length}
use Rattle.mcy_base.specs.Calls.{at_call}
use Rattle.mcy_base.proofs.calls.at_call.Given as goal

abbrev pub invariant-loop-rest : goal.invariant-loop-rest
invariant-loop-rest g l = at_call l.calls (Some l.call) ≡ at_call l.rest (Some l.call)

abbrev pub decreases-loop-rest : goal.decreases-loop-rest
decreases-loop-rest g l = length l.rest
