use Rattle.tb_settling.proofs.Common.{names_of}
use Rattle.tb_settling.proofs.Turning.{Passed}
use Rattle.tb_settling.proofs.pass.settle.Given as goal

abbrev pub invariant-loop-place : goal.invariant-loop-place
invariant-loop-place l = Passed (names_of l.scope) l.inputs l.outputs l.phase l.fn.sim l.fn.scene l.nets l.place-index l.sim l.scene
