use Rattle.proc_muxes.proofs.Common.{names_of}
use Rattle.proc_muxes.proofs.Piecing.{clear-indexed}
use Rattle.proc_muxes.proofs.piece.indexed_piece.Goals as goal

pub place_at-requires-clause-clear : goal.place_at-requires-clause-clear
place_at-requires-clause-clear c = clear-indexed (names_of c.args.scope.now) c.args.name.now c.args.span c.args.base.now c.args.count.now c.requires.can
