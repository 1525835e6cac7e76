use Rattle.step_trials.proofs.Common.{sym, ◌∙◌, refl, arith, length-drop, length-take, nets_of}
use Rattle.step_trials.proofs.TableLemmas.{small, number-first}
use Rattle.step_trials.proofs.bits.+number_of.Goals as goal

pub overflow_mul-result : goal.overflow_mul-result
overflow_mul-result t c = omega (arith, small _ _ c.number_of-high.ensures.fits (simp (length-take, length-drop) (omega arith)))

pub overflow_add-result : goal.overflow_add-result
overflow_add-result t c = omega (arith, small _ _ c.number_of-high.ensures.fits (simp (length-take, length-drop) (omega arith)))

pub overflow_mul-result-else-low : goal.overflow_mul-result-else-low
overflow_mul-result-else-low t c = omega (arith, small _ _ c.number_of-high.ensures.fits (simp (length-take, length-drop) (omega arith)))

pub returns-then-low-clause-value : goal.returns-then-low-clause-value
returns-then-low-clause-value t c =
    let low = sym c.bit_value-low.ensures ∙ c.if-low.true in
    rw (number-first (nets_of c.args.table.now) c.args.bits.now c.in-len1-up.len_at_least, low, c.number_of-high.ensures.value) refl

pub returns-else-low-clause-value : goal.returns-else-low-clause-value
returns-else-low-clause-value t c =
    let low = sym c.bit_value-low.ensures ∙ c.if-low.false in
    rw (number-first (nets_of c.args.table.now) c.args.bits.now c.in-len1-up.len_at_least, low, c.number_of-high.ensures.value) (omega arith)
