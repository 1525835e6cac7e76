use Rattle.net_builder.proofs.Common.{sym, add-one}
use Rattle.net_builder.proofs.Parts.{fresh_step}
use Rattle.net_builder.proofs.builder.fresh.Goals as goal

pub loop-k-preserved : goal.loop-k-preserved
loop-k-preserved c = rw (c.in_ok-push.ensures.items, c.loop-k.invariant, c.from.ensures, add-one) (sym (fresh_step c.args.from c.loop-k.k))
