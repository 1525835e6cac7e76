use Rattle.process_latches.proofs.Common.{take, flat_map, IsFirst, mixed_at}
use Rattle.process_latches.proofs.mixed.mixed_refusal.Given as goal

abbrev pub invariant-loop-write : goal.invariant-loop-write
invariant-loop-write l = IsFirst (flat_map (mixed_at l.writes) (take l.write-index l.writes)) l.found
