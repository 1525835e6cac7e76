use Rattle.flat_clocks.proofs.Common.{take, flat_map, IsFirst, left_reads, names_in}
use Rattle.flat_clocks.proofs.reads.+left.Given as goal

abbrev pub invariant-lefts_read-loop-part : goal.invariant-lefts_read-loop-part
invariant-lefts_read-loop-part l = IsFirst (flat_map (left_reads (names_in l.names)) (take l.part-index l.parts)) l.found
