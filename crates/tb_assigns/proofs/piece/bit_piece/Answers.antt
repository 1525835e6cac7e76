use Rattle.tb_assigns.proofs.Common.{refl, names_of, store_of, Bit}
use Rattle.tb_assigns.proofs.Drawing.{piece_drawn}
use Rattle.tb_assigns.proofs.piece.bit_piece.Goals as goal

pub returns : goal.returns
returns c = piece_drawn (names_of c.args.moment.now.scope.now) c.args.moment.now.phase (store_of c.args.moment.now.store.now) (record { name = c.args.name.now; select = Bit c.args.span c.args.index.now }) c.args.words.now c.index_at.new.words _ c.vector_of.ensures refl c.in_ok-base.ensures
