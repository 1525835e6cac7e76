use Rattle.proc_muxes.proofs.Common.{◌≡◌, ◌≤◌, length, sym, ◌∙◌, ap, subst, Shape, names_of, index_width, AllBelow, Evaluates, index_bits, IsLaid}
use Rattle.proc_muxes.proofs.Piecing.{placed-variable}
use Rattle.proc_muxes.proofs.piece.place_at.Goals as goal

pub returns-clause-placed : goal.returns-clause-placed
returns-clause-placed c =
    placed-variable (names_of c.args.scope.now) c.args.span c.args.index.now c.args.builder.now c.build_expr.new.builder c.in_ok-bits.bits c.in_ok-shown.shown
    (sym c.is_constant.ensures ∙ c.if-is_constant.false)
    (subst (λ (s : Shape). 1 ≤ s.width) c.shape_of-shape.ensures.shape c.shape_of-shape.ensures.sized.some)
    (subst (λ (s : Shape). s.width ≤ 128) c.shape_of-shape.ensures.shape c.shape_of-shape.ensures.sized.narrow)
    (subst (λ (s : Shape). Evaluates (names_of c.args.scope.now) c.args.index.now s c.args.builder.now c.build_expr.new.builder c.in_ok-bits.bits) c.shape_of-shape.ensures.shape c.in_ok-bits.ensures.built)
    (subst (λ (s : Shape). IsLaid (names_of c.args.scope.now) c.args.index.now s c.args.builder.now c.build_expr.new.builder c.in_ok-bits.bits) c.shape_of-shape.ensures.shape c.in_ok-bits.ensures.laid)
    (subst (λ (s : Shape). c.in_ok-shown.shown ≡ index_bits s c.in_ok-bits.bits) c.shape_of-shape.ensures.shape (c.in_ok-shown.ensures.is ∙ ap (index_bits c.shape_of-shape.result) c.as_slice.ensures))
    (subst (λ (s : Shape). length c.in_ok-shown.shown ≡ index_width s) c.shape_of-shape.ensures.shape c.in_ok-shown.ensures.long)
    (λ n below. c.in_ok-shown.ensures.below n (subst (AllBelow n) (sym c.as_slice.ensures) below))
