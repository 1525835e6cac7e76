use Rattle.tb_writers.proofs.Common.{◌≡◌, drop, written_of, nothing, with_outputs}
use Rattle.tb_writers.proofs.writers.Writers.of_design.Given as goal

abbrev pub invariant-loop-number : goal.invariant-loop-number
invariant-loop-number l = with_outputs (written_of l.writers) (drop l.number-index l.outputs) ≡ with_outputs nothing l.outputs
