use Rattle.std.proofs.Common.{◌≡◌, map, take}
use Rattle.process_events.specs.Naming.{any_of, argument_reads}
use Rattle.process_events.proofs.reads.any_argument_reads.Given as goal

abbrev pub invariant-loop-argument : goal.invariant-loop-argument
invariant-loop-argument l = l.found ≡ any_of (map (argument_reads l.name) (take l.argument-index l.arguments))
