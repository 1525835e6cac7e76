use Rattle.elab_finish.proofs.Common.{map, take, HasMet, register_name}
use Rattle.elab_finish.proofs.Naming.{NoneAgain}
use Rattle.elab_finish.proofs.names.named_again.Given as goal

abbrev pub invariant-loop-register : goal.invariant-loop-register
invariant-loop-register l = record {
  met : HasMet (map register_name (take l.register-index l.registers)) l.met;
  none : NoneAgain l.registers l.register-index;
}
