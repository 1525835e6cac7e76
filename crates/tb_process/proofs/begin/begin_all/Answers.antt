use Rattle.tb_process.proofs.Common.{◌<◌, length, arith, All-push, All-get_or, StackBelow, IsBelow}
use Rattle.tb_process.proofs.Beginning.{one_begun}
use Rattle.tb_process.proofs.begin.begin_all.Goals as goal

pub loop-process-preserved : goal.loop-process-preserved
loop-process-preserved c =
    let ws = c.args.waiting.now in
    let k = c.loop-process.process-index in
    let ps = c.loop-process.processes.items in
    let p = c.in_ok-begin.field-0 in
    let inside : k < length ws = omega arith in
    record {
      waits = λ nodes tree. rw c.in_ok-push.ensures.items (one_begun nodes tree ps p ws k _ inside (c.in_ok-begin.ensures.waits nodes tree) (c.loop-process.invariant.waits nodes tree));
      below = λ limit all. rw c.in_ok-push.ensures.items (All-push (StackBelow limit) ps p (c.loop-process.invariant.below limit all) (c.in_ok-begin.ensures.below limit (All-get_or (IsBelow limit) ws k _ inside all)));
    }
