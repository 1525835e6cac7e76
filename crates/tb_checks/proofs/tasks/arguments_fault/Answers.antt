use Rattle.tb_checks.proofs.Common.{refl, add-one, arith, names_of, argument_faults}
use Rattle.tb_checks.proofs.Firsts.{more}
use Rattle.tb_checks.proofs.tasks.arguments_fault.Goals as goal

pub loop-argument-init : goal.loop-argument-init
loop-argument-init c = refl

pub loop-argument-preserved : goal.loop-argument-preserved
loop-argument-preserved c = rw add-one (more (argument_faults (names_of c.args.scope.now)) c.args.arguments.now c.loop-argument.argument-index c.argument-item.result c.loop-argument.found c.argument_fault.result c.earlier-found.result c.argument-item.is (omega arith) c.loop-argument.invariant c.argument_fault.ensures c.earlier-found.ensures.joined)
