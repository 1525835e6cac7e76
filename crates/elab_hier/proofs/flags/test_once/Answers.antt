use Rattle.elab_hier.proofs.Common.{◌≡◌, false, get_or, refl, arith, rules, same_there}
use Rattle.elab_hier.proofs.Once.{flags_on, once_on}
use Rattle.elab_hier.proofs.flags.test_once.Goals as goal

pub loop-number-preserved : goal.loop-number-preserved
loop-number-preserved c =
    let ks = c.args.numbers.now in
    let i = c.loop-number.number-index in
    let k = get_or ks i 0 in
    let seen = c.loop-number.seen.items in
    let clear : get_or seen k false ≡ false = search rules in
    let is = same_there ks i 0 k c.loop-number-test.true in
    record {
      flags = flags_on c.args.count i k ks seen _ is c.loop-number-test.true c.loop-number.invariant.flags (omega (arith, c.if-place-count.false)) refl;
      once = once_on c.args.count i k ks seen is c.loop-number-test.true c.loop-number.invariant.flags c.loop-number.invariant.once clear;
    }
