use Rattle.proc_muxes.proofs.Common.{length}
use Rattle.proc_muxes.proofs.assignment.+put_pieces.Given as goal

abbrev pub decreases-put_pieces : goal.decreases-put_pieces
decreases-put_pieces l = length l.pieces.now
