use Rattle.proc_muxes.proofs.Common.{◌≡◌, [], length, AreHeldPieces, piece_targets, work, changes_of, joined}
use Rattle.proc_muxes.proofs.assignment.changes_by.Given as goal

abbrev pub invariant-loop-rest : goal.invariant-loop-rest
invariant-loop-rest l = record {
  held : AreHeldPieces (work l.builder l.variables) l.is_blocking l.rest;
  same : joined l.changes (changes_of (work l.builder l.variables) (piece_targets l.is_blocking l.rest)) ≡ joined [] (changes_of (work l.builder l.variables) (piece_targets l.is_blocking l.initial.rest));
}

abbrev pub decreases-loop-rest : goal.decreases-loop-rest
decreases-loop-rest l = length l.rest
