use Rattle.elab_finish.proofs.Orders.{not_stored, stored_is}
use Rattle.elab_finish.proofs.ordering.is_stored.Goals as goal

pub returns-in-Some : goal.returns-in-Some
returns-in-Some c = not_stored c.args.builder.now c.args.net c.joined.result _ c.requires c.joined.ensures.tells c.in-Some.is

pub returns-in-None : goal.returns-in-None
returns-in-None c = stored_is c.args.builder.now c.args.net c.joined.result c.is_written.result c.joined.ensures.tells c.in-None.is c.is_written.ensures
