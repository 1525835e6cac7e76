use Rattle.process_latches.proofs.Common.{List, add-one, arith, subst, sym, Write, HasFirsts}
use Rattle.process_latches.proofs.Latching.{passed, passed_none, passed_more, passed_all}
use Rattle.process_latches.proofs.Mixing.{firsts_none}
use Rattle.process_latches.proofs.mixed.firsts_of.Goals as goal

pub loop-passed-init : goal.loop-passed-init
loop-passed-init c = subst (λ (l : List Write). HasFirsts l c.args.is_blocking c.new-firsts.result) (sym (passed_none c.args.writes.now)) (firsts_none c.args.is_blocking c.new-firsts.result c.new-firsts.ensures.empty)

pub loop-passed-preserved : goal.loop-passed-preserved
loop-passed-preserved c =
    let ws = c.args.writes.now in
    rw add-one (subst (λ (l : List Write). HasFirsts l c.args.is_blocking c.note.new.firsts) (sym (passed_more ws c.loop-passed.passed c.from_end-write.result c.from_end-write.ensures (omega arith))) (c.in_ok-note.ensures (passed ws c.loop-passed.passed) c.loop-passed.invariant))

pub returns : goal.returns
returns c = subst (λ (l : List Write). HasFirsts l c.args.is_blocking c.loop-passed.firsts) (passed_all c.args.writes.now c.loop-passed.passed (omega arith)) c.loop-passed.invariant
