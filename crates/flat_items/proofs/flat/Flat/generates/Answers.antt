use Rattle.flat_items.proofs.Common.{IfOk-weaker, place_of, flat_of}
use Rattle.flat_items.proofs.Rules.{condition_chooses, loop_replaced}
use Rattle.flat_items.proofs.flat.Flat.generates.Goals as goal

pub returns-in-Some : goal.returns-in-Some
returns-in-Some c = IfOk-weaker c.choose.result _ _ (λ tasks e. condition_chooses (flat_of c.args.self.now) c.args.place c.args.number tasks.items c.args.taken c.args.item.now c.in-IfGenerate.first c.get-first.result.now c.in-IfGenerate.second c.in-IfGenerate.field-0 c.in-IfGenerate.test c.get.result.now (place_of c.in-Some.around.now) c.condition-value.result c.in-IfGenerate.is c.in-Some.ensures c.get.ensures c.get-first.ensures c.condition-value.ensures e) c.choose.ensures

pub returns-in-LoopGenerate : goal.returns-in-LoopGenerate
returns-in-LoopGenerate c = IfOk-weaker c.starts.result _ _ (λ tasks goes. loop_replaced (flat_of c.args.self.now) c.args.place c.args.number tasks.items c.args.taken c.args.item.now c.in-LoopGenerate.body c.get-in-LoopGenerate.result.now c.in-LoopGenerate.head c.in-LoopGenerate.is c.get-in-LoopGenerate.ensures goes) c.starts.ensures
