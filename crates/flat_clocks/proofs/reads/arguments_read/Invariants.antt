use Rattle.flat_clocks.proofs.Common.{take, flat_map, IsFirst, argument_reads, names_in}
use Rattle.flat_clocks.proofs.reads.arguments_read.Given as goal

abbrev pub invariant-loop-argument : goal.invariant-loop-argument
invariant-loop-argument l = IsFirst (flat_map (argument_reads (names_in l.names)) (take l.argument-index l.arguments)) l.found
