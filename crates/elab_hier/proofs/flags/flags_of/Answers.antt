use Rattle.elab_hier.proofs.Common.{get_or, refl, arith, same_there}
use Rattle.elab_hier.proofs.Once.{flags_on}
use Rattle.elab_hier.proofs.flags.flags_of.Goals as goal

pub loop-number-preserved : goal.loop-number-preserved
loop-number-preserved c =
    let ks = c.args.numbers.now in
    let i = c.loop-number.number-index in
    let k = get_or ks i 0 in
    flags_on c.args.count i k ks c.loop-number.flags.items _ (same_there ks i 0 k c.loop-number-test.true) c.loop-number-test.true c.loop-number.invariant (omega (arith, c.if-place-count.false)) refl
