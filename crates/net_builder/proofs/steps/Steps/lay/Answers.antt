use Rattle.net_builder.proofs.Common.{◌≡◌, ◌+◌, ◌<◌, ◌∙◌, ap, length, arith, length-append, next_in, with_step}
use Rattle.net_builder.proofs.Laying.{push_step, set_step}
use Rattle.net_builder.proofs.steps.Steps.lay.Goals as goal

pub loop-self-preserved : goal.loop-self-preserved
loop-self-preserved c =
    let table = c.loop-self.self-inside.table in
    let longer : length c.push.new.self.items ≡ length table.items + 1 = ap length c.in_ok-push.ensures.items ∙ simp length-append in
    (ap next_in c.in_ok-push.ensures.items ∙ push_step table.items ∙ c.loop-self.invariant.0, omega (arith, longer, c.loop-self-test.true, c.len.ensures, c.ranges.net.fits, table.ok))

pub returns : goal.returns
returns c =
    let table = c.loop-self.self-inside.table in
    let inside : c.args.net < length table.items = omega (arith, c.loop-self-test.false, c.len.ensures, table.ok) in
    set_step table.items c.args.net c.args.step inside ∙ ap (with_step c.args.net c.args.step) (c.loop-self.invariant.0 ∙ ap next_in c.self.view_is)
