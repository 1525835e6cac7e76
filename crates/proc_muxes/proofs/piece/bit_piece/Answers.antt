use Rattle.proc_muxes.proofs.Common.{names_of}
use Rattle.proc_muxes.proofs.Piecing.{clear-bit}
use Rattle.proc_muxes.proofs.piece.bit_piece.Goals as goal

pub place_at-requires-clause-clear : goal.place_at-requires-clause-clear
place_at-requires-clause-clear c = clear-bit (names_of c.args.scope.now) c.args.name.now c.args.span c.args.index.now c.requires.can
