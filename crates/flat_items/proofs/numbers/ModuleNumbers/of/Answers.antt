use Rattle.flat_items.proofs.Common.{◌-◌, arith, number_of}
use Rattle.flat_items.proofs.Numbered.{one_more}
use Rattle.flat_items.proofs.numbers.ModuleNumbers.of.Goals as goal

pub loop-left-preserved : goal.loop-left-preserved
loop-left-preserved c =
    let left = c.loop-left.left in
    record {
      within = omega (arith, c.loop-left.invariant.within);
      numbered = one_more c.args.modules.now left (left - 1) c.as_str.result.now c.index-modules-left.result (number_of c.loop-left.numbers) (number_of c.set.new.self) (omega (arith, c.loop-left-test.true)) (omega (arith, c.loop-left-test.true, c.loop-left.invariant.within)) c.as_str.ensures c.loop-left.invariant.numbered c.in_ok-set.ensures;
    }
