use Rattle.flat_clocks.proofs.Common.{refl, add-one, arith, argument_reads, names_in}
use Rattle.flat_clocks.proofs.Firsts.{more}
use Rattle.flat_clocks.proofs.reads.arguments_read.Goals as goal

pub loop-argument-preserved : goal.loop-argument-preserved
loop-argument-preserved c = rw add-one (more (argument_reads (names_in c.args.names.now)) c.args.arguments.now c.loop-argument.argument-index c.argument-item.result c.loop-argument.found c.argument_read.result c.earlier-found.result c.argument-item.is (omega arith) c.loop-argument.invariant c.argument_read.ensures c.earlier-found.ensures)

pub loop-argument-init : goal.loop-argument-init
loop-argument-init c = refl
