use Rattle.tb_process.proofs.Common.{◌<◌, length, ◌∙◌, arith, length-set, All-get_or, IsBelow}
use Rattle.tb_process.proofs.Beginning.{next_begun, next_below, each_begun, each_below}
use Rattle.tb_process.proofs.begin.begin_each.Goals as goal

pub loop-i-preserved : goal.loop-i-preserved
loop-i-preserved c =
    let ps = c.loop-i.processes in
    let ws = c.args.waiting.now in
    let i = c.loop-i.i in
    let inside : i < length ps = omega arith in
    let within : i < length ws = omega (arith, c.loop-i.invariant.long) in
    record {
      long = length-set ps i c.begin_in.new.process ∙ c.loop-i.invariant.long;
      waits = λ nodes tree. next_begun nodes tree ps c.begin_in.new.process ws i _ inside within (c.in_ok-begin_in.ensures.waits nodes tree) (c.loop-i.invariant.waits nodes tree);
      below = λ limit all. next_below limit ps c.begin_in.new.process i inside (c.in_ok-begin_in.ensures.below limit (All-get_or (IsBelow limit) ws i _ within all)) (c.loop-i.invariant.below limit all);
    }

pub returns : goal.returns
returns c =
    let ps = c.loop-i.processes in
    let ws = c.args.waiting.now in
    record {
      waits = λ nodes tree. each_begun nodes tree ps ws c.loop-i.i (omega arith) (omega (arith, c.loop-i.invariant.long)) (c.loop-i.invariant.waits nodes tree);
      below = λ limit all. each_below limit ps c.loop-i.i (omega arith) (c.loop-i.invariant.below limit all);
    }
