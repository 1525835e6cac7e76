use Rattle.flat_clocks.proofs.Common.{ap, ◌∙◌, sym, List, add-one, arith, flat_of, FlatItem, with_items, sources_in}
use Rattle.flat_clocks.proofs.Sources.{item_more, dropped}
use Rattle.flat_clocks.proofs.clocks.enter_all.Goals as goal

pub loop-item-preserved : goal.loop-item-preserved
loop-item-preserved c = rw add-one (item_more (flat_of c.args.flat.now).signals (flat_of c.args.flat.now).places c.args.items.now c.loop-item.item-index c.item-item.result (sources_in c.loop-item.sources) (sources_in c.enter.new.sources) _ c.item-item.is (omega arith) c.in_ok-enter.ensures c.loop-item.invariant)

pub returns : goal.returns
returns c = ap (λ (l : List FlatItem). with_items (flat_of c.args.flat.now).signals (flat_of c.args.flat.now).places (sources_in c.loop-item.sources) l) (sym (dropped c.args.items.now c.loop-item.item-index (omega arith))) ∙ c.loop-item.invariant
