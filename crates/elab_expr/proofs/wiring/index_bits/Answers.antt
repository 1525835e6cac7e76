use Rattle.elab_expr.proofs.Common.{ℕ, ap, ◌∙◌, IfOk-weaker, number, values, extended, index_width, ShapeOfBits}
use Rattle.elab_expr.proofs.wiring.index_bits.Goals as goal

pub returns-clause-value : goal.returns-clause-value
returns-clause-value c =
    IfOk-weaker c.extended_bits.result _ _ (λ found e nets.
    e nets
    ∙ ap (λ (k : ℕ). extended (ShapeOfBits c.args.bits.now c.args.own.is_signed) k (number (values nets c.args.bits.now))) c.index_width.ensures
    ∙ ap (λ (k : ℕ). extended (record { width = k; is_signed = c.args.own.is_signed }) (index_width c.args.own) (number (values nets c.args.bits.now))) c.requires.fit) c.extended_bits.ensures.value
