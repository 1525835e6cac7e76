use Rattle.flat_items.proofs.Tops.{top_none}
use Rattle.flat_items.proofs.top.top_of.Goals as goal

pub returns-in-None-get-clause-none : goal.returns-in-None-get-clause-none
returns-in-None-get-clause-none c = top_none c.args.modules.now c.args.name.now c.in-Some.number c.module_at.result c.module_at.ensures c.in-Some.is c.in-None-get.ensures.lookup.3
