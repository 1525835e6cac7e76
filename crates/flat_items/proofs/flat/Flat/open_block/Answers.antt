use Rattle.flat_items.proofs.Common.{names_of, ap, ◌∙◌, opened_of, place_of, flat_of}
use Rattle.flat_items.proofs.Rules.{block_entered}
use Rattle.flat_items.proofs.flat.Flat.open_block.Goals as goal

pub returns : goal.returns
returns c = block_entered (flat_of c.args.self.now) (flat_of c.enter.new.self) c.args.place (place_of c.in-Some.around.now) c.args.name.now c.as_str.result.now (opened_of c.args.child) (opened_of c.open_items-2.new.self) c.args.block.now c.in_ok-tasks.tasks.items c.in_ok-prefix.prefix c.in_ok-within.within.items c.block_head-head.result (names_of c.new.result) c.block_items.result.now c.in-Some.ensures c.in_ok-prefix.ensures c.as_str.ensures (c.in_ok-within.ensures.items ∙ c.as_slice.ensures.value) c.block_head-head.ensures (ap names_of c.new.ensures) c.block_items.ensures c.in_ok-open_items.ensures c.in_ok-tasks.ensures.tasks c.in_ok-tasks.ensures.entered
