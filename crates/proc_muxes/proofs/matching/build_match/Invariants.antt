use Rattle.proc_muxes.proofs.Common.{drop, names_of}
use Rattle.proc_muxes.proofs.Labelling.{Matched}
use Rattle.proc_muxes.proofs.matching.build_match.Given as goal

abbrev pub invariant-loop-place : goal.invariant-loop-place
invariant-loop-place l = Matched (names_of l.scope) l.selector.kind l.selector.size l.selector.bits l.labels (drop l.place l.labels) l.fn.builder l.builder l.test
