use Rattle.vlog_token.proofs.Common.{plane_digit, positional}
use Rattle.vlog_token.proofs.NumberLemmas.{cut_after}
use Rattle.vlog_token.proofs.numeral.plane_bits.Goals as goal

pub returns-then-width-lt128 : goal.returns-then-width-lt128
returns-then-width-lt128 c =
    cut_after (positional (plane_digit c.args.plane c.args.radix) c.args.radix c.args.left c.args.digits.now) c.wrapped-bits.result c.args.width c.if-width-lt128.true c.wrapped-bits.ensures
