use Rattle.tb_assigns.proofs.Common.{ℕ, ◌+◌, ◌-◌, ◌/◌, ◌^◌, min, ap, ◌∙◌, vector_is, some_bits}
use Rattle.tb_assigns.proofs.Clips.{negative_below}
use Rattle.tb_assigns.proofs.clip.clip_of.Goals as goal

pub returns-then-piece : goal.returns-then-piece
returns-then-piece c v =
    c.clip_below.ensures v
    ∙ ap (λ (n : ℕ). some_bits c.args.piece.vector.number 0 (min (c.args.piece.size - (c.args.piece.base.magnitude + n)) c.args.piece.vector.width) (v / 2 ^ (c.args.piece.base.magnitude + n))) c.from-low.ensures
    ∙ negative_below (vector_is c.args.piece.vector) c.args.piece.base c.args.piece.size v c.if-piece.true
