use Rattle.proc_muxes.proofs.Common.{◌≡◌, ◌+◌, length, work}
use Rattle.proc_muxes.proofs.Muxing.{Rest}
use Rattle.proc_muxes.proofs.choice.choose_all.Given as goal

abbrev pub invariant-loop-rest : goal.invariant-loop-rest
invariant-loop-rest l = record {
  places : length l.variables ≡ length l.builder.signals;
  count : length l.builder.cells + length l.rest ≡ length l.initial.builder.cells + length l.initial.rest;
  left : Rest l.at l.test l.initial.rest l.rest (work l.initial.builder l.initial.variables) (work l.builder l.variables);
}

abbrev pub decreases-loop-rest : goal.decreases-loop-rest
decreases-loop-rest l = length l.rest
