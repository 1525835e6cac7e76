use Rattle.vlog_meaning.proofs.Common.{sym, ◌∙◌, arith, integer}
use Rattle.vlog_meaning.proofs.Rounds.{remainder_positive, not_zero}
use Rattle.vlog_meaning.proofs.arithmetic.remainder.Goals as goal

pub returns-else-is_negative : goal.returns-else-is_negative
returns-else-is_negative c =
    let e = remainder_positive c.args.shape c.args.a (integer c.args.shape c.args.b) (sym c.is_negative.ensures ∙ c.if-is_negative.false) c.requires.fits_a in
    rw (c.magnitude.ensures, c.magnitude-2.ensures) (sym e ∙ not_zero c.args.b _ (λ h. omega arith))
