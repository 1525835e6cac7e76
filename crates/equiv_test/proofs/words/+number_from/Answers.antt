use Rattle.equiv_test.proofs.Common.{arith, small}
use Rattle.equiv_test.proofs.Reading.{doubled-fits}
use Rattle.equiv_test.proofs.words.+number_from.Goals as goal

pub overflow_mul-result : goal.overflow_mul-result
overflow_mul-result t c = omega (arith, small _ _ c.number_from-high.ensures.fits (omega (arith, c.requires.narrow, c.if-width-eq0.false)))

pub overflow_add-result : goal.overflow_add-result
overflow_add-result t c = omega (arith, small _ _ c.number_from-high.ensures.fits (omega (arith, c.requires.narrow, c.if-width-eq0.false)))

pub overflow_mul-result-else-low : goal.overflow_mul-result-else-low
overflow_mul-result-else-low t c = omega (arith, small _ _ c.number_from-high.ensures.fits (omega (arith, c.requires.narrow, c.if-width-eq0.false)))

pub returns-then-low-clause-fits : goal.returns-then-low-clause-fits
returns-then-low-clause-fits t c = doubled-fits _ _ c.number_from-high.ensures.fits (omega (arith, c.if-width-eq0.false))

pub returns-else-low-clause-fits : goal.returns-else-low-clause-fits
returns-else-low-clause-fits t c = (let fits = doubled-fits _ _ c.number_from-high.ensures.fits (omega (arith, c.if-width-eq0.false)) in omega (arith, fits))
