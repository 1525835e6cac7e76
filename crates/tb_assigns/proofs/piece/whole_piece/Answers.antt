use Rattle.tb_assigns.proofs.Common.{ℤ, pos, refl, ap, ◌∙◌, names_of, Whole}
use Rattle.tb_assigns.proofs.Drawing.{piece_drawn}
use Rattle.tb_assigns.proofs.piece.whole_piece.Goals as goal

pub returns : goal.returns
returns c phase store g = piece_drawn (names_of c.args.scope.now) phase store (record { name = c.args.name.now; select = Whole }) g g _ c.vector_of-vector.ensures refl (ap (λ (z : ℤ). (z, g)) (c.positive.ensures ∙ ap pos c.from.ensures))
