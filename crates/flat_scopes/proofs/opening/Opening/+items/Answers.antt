use Rattle.flat_scopes.proofs.Common.{arith, names_of, opened_of}
use Rattle.flat_scopes.proofs.ItemLemmas.{items_open}
use Rattle.flat_scopes.proofs.opening.Opening.+items.Goals as goal

pub open_items-returns : goal.open_items-returns
open_items-returns t c = items_open c.args.head.now (names_of c.args.outside.now) (opened_of c.args.self.now) (opened_of c.loop-item.self) c.args.items.now c.loop-item.item-index (omega arith) c.loop-item.invariant
