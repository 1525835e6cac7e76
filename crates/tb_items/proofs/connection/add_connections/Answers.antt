use Rattle.std.proofs.lemmas.Result.{IfOk-weaker}
use Rattle.tb_items.proofs.Instances.{connected}
use Rattle.tb_items.proofs.connection.add_connections.Goals as goal

pub returns : goal.returns
returns c = IfOk-weaker c.add_wires.result _ _ (λ done g. connected c.args.design.now c.args.clock.now c.args.placing.now c.get-instance.result.now c.get.result.now c.in_ok-wires.wires.items c.as_slice.result.now c.as_slice-2.result.now c.args.items.now.items c.add_missing.new.items.items c.add_taken.new.items.items c.add_wires.new.items.items c.get-instance.ensures c.get.ensures c.in_ok-wires.ensures c.as_slice.ensures.value c.as_slice-2.ensures.value c.in_ok-add_missing.ensures c.in_ok-add_taken.ensures g) c.add_wires.ensures
