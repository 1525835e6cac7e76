use Rattle.proc_muxes.proofs.Common.{◌-◌, List, length, take, drop, refl, subst, rules, on_ok_weaker, Piece, AreHeldPieces, AreFitPieces, work}
use Rattle.proc_muxes.proofs.Bits.{below-take}
use Rattle.proc_muxes.proofs.Frames.{nets-added}
use Rattle.proc_muxes.proofs.Piecing.{piece-later}
use Rattle.proc_muxes.proofs.Assigning.{split-list, puts-none, rest-long, rest-below, puts-rest, keeps-more}
use Rattle.proc_muxes.proofs.assignment.+put_pieces.Goals as goal

pub returns-in_default-clause-puts : goal.returns-in_default-clause-puts
returns-in_default-clause-puts t c = puts-none c.args.is_blocking c.args.pieces.now c.args.bits.now (work c.args.builder.now c.args.variables.now) c.in_default.len_below

pub put_pieces-requires : goal.put_pieces-requires
put_pieces-requires t c =
    let split = split-list c.args.pieces.now c.piece-item.result (length c.args.pieces.now - 1) c.in-len1-up.len_at_least c.piece-item.is refl in
    let held = subst (λ (l : List Piece). AreHeldPieces (work c.args.builder.now c.args.variables.now) c.args.is_blocking l) split c.requires.held in
    let fit = subst (λ (l : List Piece). AreFitPieces c.args.builder.now.nets l) split c.requires.fit in (
      search rules,
      (
        held.1,
        (
          fit.1,
          (
            rest-long c.args.pieces.now c.piece-item.result (take (length c.args.pieces.now - 1) (drop 1 c.args.pieces.now)) c.args.bits.now split c.requires.long,
            (below-take c.args.builder.now.nets (length c.args.bits.now - c.piece-item.result.size) c.args.bits.now c.requires.below, (c.requires.stands, c.requires.places)),
          ),
        ),
      ),
    )

pub put_piece-requires-clause-fit : goal.put_piece-requires-clause-fit
put_piece-requires-clause-fit t c =
    let split = split-list c.args.pieces.now c.piece-item.result (length c.args.pieces.now - 1) c.in-len1-up.len_at_least c.piece-item.is refl in
    let fit = subst (λ (l : List Piece). AreFitPieces c.args.builder.now.nets l) split c.requires.fit in
    piece-later c.args.builder.now.nets c.put_pieces.new.builder.nets c.piece-item.result (nets-added c.args.builder.now c.put_pieces.new.builder c.in_ok-put_pieces.ensures.keeps.adds) fit.0

pub put_piece-requires-clause-below : goal.put_piece-requires-clause-below
put_piece-requires-clause-below t c =
    rest-below c.args.builder.now.nets c.put_pieces.new.builder.nets (length c.args.bits.now - (length c.args.bits.now - c.piece-item.result.size)) (length c.args.bits.now - c.piece-item.result.size) c.args.bits.now (nets-added c.args.builder.now c.put_pieces.new.builder c.in_ok-put_pieces.ensures.keeps.adds) c.requires.below

pub returns-clause-puts : goal.returns-clause-puts
returns-clause-puts t c =
    let split = split-list c.args.pieces.now c.piece-item.result (length c.args.pieces.now - 1) c.in-len1-up.len_at_least c.piece-item.is refl in
    on_ok_weaker c.put_piece.result
    (puts-rest c.args.is_blocking c.args.pieces.now c.piece-item.result (take (length c.args.pieces.now - 1) (drop 1 c.args.pieces.now)) c.args.bits.now (work c.args.builder.now c.args.variables.now) (work c.put_pieces.new.builder c.put_pieces.new.variables) (work c.put_piece.new.builder c.put_piece.new.variables) split c.requires.long c.in_ok-put_pieces.ensures.puts)
    c.put_piece.ensures.puts

pub returns-clause-keeps : goal.returns-clause-keeps
returns-clause-keeps t c =
    let split = split-list c.args.pieces.now c.piece-item.result (length c.args.pieces.now - 1) c.in-len1-up.len_at_least c.piece-item.is refl in
    on_ok_weaker c.put_piece.result
    (keeps-more c.args.is_blocking c.args.pieces.now c.piece-item.result (take (length c.args.pieces.now - 1) (drop 1 c.args.pieces.now)) (work c.args.builder.now c.args.variables.now) (work c.put_pieces.new.builder c.put_pieces.new.variables) (work c.put_piece.new.builder c.put_piece.new.variables) split c.in_ok-put_pieces.ensures.keeps)
    c.put_piece.ensures.keeps
