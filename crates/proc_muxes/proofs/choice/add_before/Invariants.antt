use Rattle.proc_muxes.proofs.Common.{◌≡◌, ◌++◌, length, all_had}
use Rattle.proc_muxes.proofs.choice.add_before.Given as goal

abbrev pub invariant-loop-rest : goal.invariant-loop-rest
invariant-loop-rest l = l.choices.items ++ all_had l.rest ≡ l.initial.choices.items ++ all_had l.initial.rest

abbrev pub decreases-loop-rest : goal.decreases-loop-rest
decreases-loop-rest l = length l.rest
