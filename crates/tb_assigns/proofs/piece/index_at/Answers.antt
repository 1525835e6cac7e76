use Rattle.tb_assigns.proofs.Common.{ℕ, ap, ◌∙◌, names_of, store_of, bound_integer}
use Rattle.tb_assigns.proofs.Drawing.{index_is}
use Rattle.tb_assigns.proofs.piece.index_at.Goals as goal

pub returns : goal.returns
returns c = index_is (names_of c.args.moment.now.scope.now) c.args.moment.now.phase (store_of c.args.moment.now.store.now) c.args.index.now c.args.words.now c.evaluate.new.words c.bits.result (bound_integer c.of.result) c.shape_of-shape.result c.of.ensures.value (ap (λ (n : ℕ). (n, c.evaluate.new.words)) c.bits.ensures.bits ∙ c.in_ok-value.ensures.value) c.shape_of-shape.ensures.shape
