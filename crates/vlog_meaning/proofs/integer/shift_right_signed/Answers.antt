use Rattle.vlog_meaning.proofs.Common.{sym, ◌∙◌}
use Rattle.vlog_meaning.proofs.Signs.{halved_negative, halved_positive}
use Rattle.vlog_meaning.proofs.integer.shift_right_signed.Goals as goal

pub returns-then-is_negative : goal.returns-then-is_negative
returns-then-is_negative c =
    let e = halved_negative c.args.shape c.args.value c.args.places (sym c.is_negative.ensures ∙ c.if-is_negative.true) c.requires.fits in
    rw (c.shift_right.ensures, c.ones-top.ensures) (sym e)

pub returns-else-is_negative : goal.returns-else-is_negative
returns-else-is_negative c = c.shift_right-else-is_negative.ensures ∙ sym (halved_positive c.args.shape c.args.value c.args.places (sym c.is_negative.ensures ∙ c.if-is_negative.false) c.requires.fits)
