use Rattle.std.proofs.Common.{◌≡◌, map, take}
use Rattle.process_events.specs.Naming.{any_of, left_reads}
use Rattle.process_events.proofs.reads.+left.Given as goal

abbrev pub invariant-any_left_reads-loop-part : goal.invariant-any_left_reads-loop-part
invariant-any_left_reads-loop-part l = l.found ≡ any_of (map (left_reads l.name) (take l.part-index l.parts))
