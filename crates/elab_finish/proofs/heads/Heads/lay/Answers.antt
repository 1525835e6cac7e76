use Rattle.elab_finish.proofs.Common.{◌<◌, ◌∙◌, ap, length, arith, head_in, with_head}
use Rattle.elab_finish.proofs.Orders.{push_head, set_head}
use Rattle.elab_finish.proofs.heads.Heads.lay.Goals as goal

pub loop-self-preserved : goal.loop-self-preserved
loop-self-preserved c = ap head_in c.in_ok-push.ensures.items ∙ push_head c.loop-self.self.table.items ∙ c.loop-self.invariant

pub returns : goal.returns
returns c =
    let table = c.loop-self.self.table in
    let inside : c.args.net < length table.items = omega (arith, c.loop-self-test.false, c.len.ensures) in
    set_head table.items c.args.net c.args.place inside ∙ ap (with_head c.args.net c.args.place) c.loop-self.invariant
