use Rattle.tb_checks.proofs.Common.{take, flat_map, names_of, IsFirst, argument_faults}
use Rattle.tb_checks.proofs.tasks.arguments_fault.Given as goal

abbrev pub invariant-loop-argument : goal.invariant-loop-argument
invariant-loop-argument l = IsFirst (flat_map (argument_faults (names_of l.scope)) (take l.argument-index l.arguments)) l.found
