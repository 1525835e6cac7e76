use Rattle.tb_assigns.proofs.Common.{ℤ, pos, ◌+ℤ◌, ◌-ℤ◌, ap, ◌∙◌, natural, bound_integer, names_of, Range}
use Rattle.vlog_effects.specs.Expressions.{bound_of}
use Rattle.tb_assigns.proofs.Drawing.{piece_drawn}
use Rattle.tb_assigns.proofs.piece.range_piece.Goals as goal

pub returns : goal.returns
returns c phase store g =
    piece_drawn (names_of c.args.scope.now) phase store (record { name = c.args.name.now; select = Range c.args.span c.args.msb.now c.args.lsb.now }) g g _ c.vector_of.ensures
    (c.range_size.ensures
    ∙ ap (λ (z : ℤ). natural (z -ℤ bound_integer c.bound_of-base.result +ℤ pos 1)) c.bound_of.ensures.value
    ∙ ap (λ (z : ℤ). natural (bound_of (names_of c.args.scope.now) c.args.msb.now -ℤ z +ℤ pos 1)) c.bound_of-base.ensures.value)
    (ap (λ (z : ℤ). (z, g)) c.bound_of-base.ensures.value)
