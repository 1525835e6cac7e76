use Rattle.proc_muxes.proofs.Labelling.{KeptSo}
use Rattle.proc_muxes.proofs.matching.kept.Given as goal

abbrev pub invariant-loop-bit : goal.invariant-loop-bit
invariant-loop-bit l = KeptSo l.ignored l.bits l.bit-index l.rest l.found.items
