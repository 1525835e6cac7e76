use Rattle.vlog_token.proofs.Common.{◌+◌, ◌*◌, ◌%◌, ◌^◌, ap, ◌∙◌, plane_digit}
use Rattle.vlog_token.proofs.NumberLemmas.{wrap_digit, wrap_skip}
use Rattle.vlog_token.proofs.numeral.wrapped.Goals as goal
use Rattle.vlog_token.proofs.numeral.wrapped.Goals.{then-b-ne95, else-b-ne95}

pub loop-b-preserved : goal.loop-b-preserved
loop-b-preserved c =
    let digit = plane_digit c.args.plane c.args.radix in
    elim c.if-b-ne95.branch [
      | then-b-ne95 w ↦
          w.sum-is
          ∙ ap (λ r. (c.loop-b.sum * r % 2 ^ 128 + w.from-then-b-ne95.result) % 2 ^ 128) w.from.ensures
          ∙ ap (λ d. (c.loop-b.sum * c.args.radix % 2 ^ 128 + d) % 2 ^ 128) (w.from-then-b-ne95.ensures ∙ w.plane_digit.ensures)
          ∙ wrap_digit digit c.args.radix c.args.left (2 ^ 128) c.args.digits.now c.loop-b.b-index c.loop-b.sum c.loop-b-test.true c.loop-b.invariant w.if-b-ne95.true
      | else-b-ne95 w ↦
          w.sum-is
          ∙ wrap_skip digit c.args.radix c.args.left (2 ^ 128) c.args.digits.now c.loop-b.b-index c.loop-b.sum c.loop-b-test.true c.loop-b.invariant w.if-b-ne95.false
    ]
