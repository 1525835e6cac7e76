use Rattle.vlog_items.proofs.LaterParts.{loop_body}
use Rattle.vlog_items.proofs.items.loop_generate.Goals as goal

pub item-requires : goal.item-requires
item-requires c = rw (c.skip.ensures, c.generate_loop-head.ensures.rest) (loop_body c.args.parts.now c.requires)
