use Rattle.tb_refusals.proofs.Common.{List, take, add-one, arith, subst, sym, BenchItem, context_of, HasSeen}
use Rattle.tb_refusals.proofs.Firsts.{take_more, faultless_more}
use Rattle.tb_refusals.proofs.first.first_fault.Goals as goal

pub loop-item-preserved : goal.loop-item-preserved
loop-item-preserved c =
    let k = context_of c.args.context in
    let items = c.args.items.now in
    let n = c.loop-item.item-index in
    let seen = subst (λ (l : List BenchItem). HasSeen k l c.item_fault.new.seen) (sym (take_more items n c.item-item.result c.item-item.is (omega arith))) (c.in_ok-fault.ensures.seen (take n items) c.loop-item.invariant.0) in
    rw add-one (seen, faultless_more k items n c.item-item.result c.in_ok-fault.field-0 c.item-item.is (omega arith) c.loop-item.invariant.1 (c.in_ok-fault.ensures.fault (take n items) c.loop-item.invariant.0) c.in_default.is)
