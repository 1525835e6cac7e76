use Rattle.std.proofs.Common.{◌≡◌, ◌-◌, ◌∙◌, sym, drop, length, length-drop, arith}
use Rattle.tb_formats.proofs.DigitLists.{significant_short}
use Rattle.tb_formats.proofs.digits.zeros_in_front.Goals as goal

pub returns-after-loop-zeros-clause-rest : goal.returns-after-loop-zeros-clause-rest
returns-after-loop-zeros-clause-rest c =
    let long : length (drop c.loop-zeros.zeros c.args.digits.now) ≡ length c.args.digits.now - c.loop-zeros.zeros = length-drop c.loop-zeros.zeros c.args.digits.now in
    let last = c.loop-zeros-test.false in
    sym (significant_short (drop c.loop-zeros.zeros c.args.digits.now) (omega (arith, last))) ∙ c.loop-zeros.invariant.1
