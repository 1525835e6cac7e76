use Rattle.gate_words.proofs.Common.{◌<◌, length, false, arith, Fixed}
use Rattle.gate_words.proofs.Adders.{carry-step}
use Rattle.gate_words.proofs.sums.carry_out.Goals as goal

pub loop-i-preserved : goal.loop-i-preserved
loop-i-preserved c =
    let within : c.loop-i.i < length c.args.b.now = omega (arith, c.loop-i-test.true, c.requires.same) in
    carry-step c.args.gates.now c.loop-i.gates c.carry_of.new.gates c.args.a.now c.args.b.now c.args.carry c.loop-i.i (Fixed false) (Fixed false) c.loop-i.carry c.in_ok-carry.carry c.loop-i.invariant c.requires.a c.requires.b c.loop-i-test.true within c.in_ok-carry.ensures
