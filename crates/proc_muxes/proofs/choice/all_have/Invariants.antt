use Rattle.proc_muxes.proofs.Common.{◌≡◌, ◌++◌, length, work, AllFit, all_have}
use Rattle.proc_muxes.proofs.choice.all_have.Given as goal

abbrev pub invariant-loop-rest : goal.invariant-loop-rest
invariant-loop-rest l = record { fit : AllFit (work l.builder l.variables) l.rest; same : l.choices.items ++ all_have (work l.builder l.variables) l.rest ≡ all_have (work l.builder l.variables) l.initial.rest }

abbrev pub decreases-loop-rest : goal.decreases-loop-rest
decreases-loop-rest l = length l.rest
