use Rattle.elab_items.proofs.Common.{flat_of, clocks_in}
use Rattle.elab_items.proofs.Timing.{timed_built}
use Rattle.elab_items.proofs.timed.build_timed.Goals as goal

pub returns-in-Err-clause-fails : goal.returns-in-Err-clause-fails
returns-in-Err-clause-fails c = c.timed_error.ensures c.args.inputs.now (flat_of c.args.flat.now) (clocks_in c.args.clocks.now) c.args.item.now c.args.builder.now c.in-Err.ensures.fails c.in_ok-late.ensures

pub returns-in-None-clause-built : goal.returns-in-None-clause-built
returns-in-None-clause-built c = timed_built c.args.inputs.now (flat_of c.args.flat.now) (clocks_in c.args.clocks.now) c.args.item.now c.args.builder.now c.build_item.new.builder c.in_ok-late.late c.in-Ok.ensures.built c.in_ok-late.ensures c.in-None.is c.cells-cells.ensures.few
