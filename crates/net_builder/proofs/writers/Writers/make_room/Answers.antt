use Rattle.net_builder.proofs.Common.{◌≡◌, ◌+◌, ◌∙◌, ap, length, arith, length-append, writer_in}
use Rattle.net_builder.proofs.Writing.{push_is}
use Rattle.net_builder.proofs.writers.Writers.make_room.Goals as goal

pub loop-self-preserved : goal.loop-self-preserved
loop-self-preserved c =
    let longer : length c.push.new.self.items ≡ length c.loop-self.self.table.items + 1 = ap length c.in_ok-push.ensures.items ∙ simp length-append in
    (ap writer_in c.in_ok-push.ensures.items ∙ push_is c.loop-self.self.table.items ∙ c.loop-self.invariant.0, omega (arith, longer, c.loop-self.invariant.1))
