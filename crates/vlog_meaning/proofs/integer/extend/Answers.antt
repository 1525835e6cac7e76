use Rattle.vlog_meaning.proofs.Common.{arith, ◌∙◌, sym}
use Rattle.vlog_meaning.proofs.Powers.{power_le}
use Rattle.vlog_meaning.proofs.Signs.{extended_negative, extended_positive}
use Rattle.vlog_meaning.proofs.integer.extend.Goals as goal

pub overflow_sub-result : goal.overflow_sub-result
overflow_sub-result c = omega (arith, power_le c.args.shape.width c.args.width c.requires.wide)

pub returns-then-is_negative-clause-value : goal.returns-then-is_negative-clause-value
returns-then-is_negative-clause-value c =
    let le = power_le c.args.shape.width c.args.width c.requires.wide in
    let e = extended_negative c.args.shape c.args.width c.args.value (sym c.is_negative.ensures ∙ c.if-is_negative.true) c.requires.fits c.requires.wide in
    omega (arith, e)

pub returns-then-is_negative-clause-fits : goal.returns-then-is_negative-clause-fits
returns-then-is_negative-clause-fits c = omega (arith, power_le c.args.shape.width c.args.width c.requires.wide)

pub returns-else-is_negative-clause-value : goal.returns-else-is_negative-clause-value
returns-else-is_negative-clause-value c = sym (extended_positive c.args.shape c.args.width c.args.value (sym c.is_negative.ensures ∙ c.if-is_negative.false) c.requires.fits c.requires.wide)

pub returns-else-is_negative-clause-fits : goal.returns-else-is_negative-clause-fits
returns-else-is_negative-clause-fits c = omega (arith, power_le c.args.shape.width c.args.width c.requires.wide)
