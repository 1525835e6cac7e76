use Rattle.flat_items.proofs.Common.{place_of, is_full, flat_of}
use Rattle.flat_items.proofs.Numbered.{placed_by}
use Rattle.flat_items.proofs.Rules.{instance_refused, instance_placed}
use Rattle.flat_items.proofs.flat.Flat.instance.Goals as goal

pub returns-in_ok-tasks-in-Err : goal.returns-in_ok-tasks-in-Err
returns-in_ok-tasks-in-Err c = instance_refused c.args.modules.now (flat_of c.args.self.now) c.args.place c.args.placing.now c.in_ok-tasks-in-Err.tasks.items (place_of c.in-Some.around.now) c.get-name.result.now c.placed_in.result c.in-Some.ensures c.get-name.ensures (placed_by c.args.modules.now c.args.numbers.now c.get-name.result.now c.is_full-full.result (is_full (flat_of c.args.self.now)) _ _ c.placed_in.result c.requires c.placed_in.ensures c.is_full-full.ensures c.as_slice.ensures.value) c.in-Err.error c.in-Err.is c.in_ok-tasks-in-Err.ensures

pub returns-in_ok-tasks-in-Ok : goal.returns-in_ok-tasks-in-Ok
returns-in_ok-tasks-in-Ok c = instance_placed c.args.modules.now (flat_of c.args.self.now) c.args.place c.args.placing.now c.in_ok-tasks-in-Ok.tasks.items (place_of c.in-Some.around.now) c.get-name.result.now c.placed_in.result c.in-Some.ensures c.get-name.ensures (placed_by c.args.modules.now c.args.numbers.now c.get-name.result.now c.is_full-full.result (is_full (flat_of c.args.self.now)) _ _ c.placed_in.result c.requires c.placed_in.ensures c.is_full-full.ensures c.as_slice.ensures.value) c.in-Ok.number (flat_of c.enter_instance.new.self) c.in-Ok.is c.in_ok-tasks-in-Ok.ensures
