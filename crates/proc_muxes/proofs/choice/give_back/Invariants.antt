use Rattle.proc_muxes.proofs.Common.{◌≡◌, length, work, AllFit, given_back}
use Rattle.proc_muxes.proofs.choice.give_back.Given as goal

abbrev pub invariant-loop-rest : goal.invariant-loop-rest
invariant-loop-rest l = record { fit : AllFit (work l.builder l.variables) l.rest; places : length l.variables ≡ length l.builder.signals; same : given_back l.rest (work l.builder l.variables) ≡ given_back l.initial.rest (work l.initial.builder l.initial.variables) }

abbrev pub decreases-loop-rest : goal.decreases-loop-rest
decreases-loop-rest l = length l.rest
