use Rattle.std.proofs.Common.{rules, arith}
use Rattle.tb_formats.proofs.DigitLists.{digit_more}
use Rattle.tb_formats.proofs.digits.push_digits.Goals as goal

pub loop-left-preserved : goal.loop-left-preserved
loop-left-preserved c =
    let i = c.loop-left.invariant in
    (omega (arith, i.0), digit_more c.args.count c.loop-left.left c.args.bits c.args.value c.glyph.result c.args.text.now.items c.loop-left.text.items c.push.new.self.items (search rules) i.0 i.1 c.in_ok-push.ensures.items (search rules))
