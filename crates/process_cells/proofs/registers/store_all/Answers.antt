use Rattle.process_cells.proofs.Common.{[], take, refl}
use Rattle.process_cells.proofs.Storing.{stores_none, can_later, stores_more, stores_all}
use Rattle.process_cells.proofs.registers.store_all.Goals as goal

pub store-requires : goal.store-requires
store-requires c = can_later c.args.builder.now c.loop-variable.builder c.args.variables.now (take c.loop-variable.variable-index c.args.variables.now) c.loop-variable.variable-index c.variable-item.result c.variable-item.is c.requires c.loop-variable-test.true c.loop-variable.invariant.so_far

pub loop-variable-init : goal.loop-variable-init
loop-variable-init c = record { fit = c.requires; so_far = stores_none c.args.builder.now [] refl }

pub loop-variable-preserved : goal.loop-variable-preserved
loop-variable-preserved c = record {
  fit = c.requires;
  so_far = stores_more c.args.builder.now c.loop-variable.builder c.store.new.builder c.args.variables.now c.loop-variable.variable-index c.variable-item.result c.variable-item.is c.loop-variable-test.true c.loop-variable.invariant.so_far c.in_ok-store.ensures;
}

pub returns : goal.returns
returns c = stores_all c.args.builder.now c.loop-variable.builder c.args.variables.now c.loop-variable.variable-index c.loop-variable-test.false c.loop-variable.auto.variable-index-end c.loop-variable.invariant.so_far
