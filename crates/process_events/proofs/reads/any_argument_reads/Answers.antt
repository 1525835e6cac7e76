use Rattle.std.proofs.Common.{add-one, arith}
use Rattle.process_events.specs.Naming.{argument_reads}
use Rattle.process_events.proofs.Lists.{any_more}
use Rattle.process_events.proofs.reads.any_argument_reads.Goals as goal

pub loop-argument-preserved : goal.loop-argument-preserved
loop-argument-preserved c = rw add-one (any_more (argument_reads c.args.name.now) c.args.arguments.now c.loop-argument.argument-index c.argument-item.result c.loop-argument.found c.argument_reads.result c.either-found.result c.argument-item.is (omega arith) c.loop-argument.invariant c.argument_reads.ensures c.either-found.ensures)
