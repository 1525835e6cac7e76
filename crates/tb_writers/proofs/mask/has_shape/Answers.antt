use Rattle.tb_writers.proofs.Common.{names_of, sense}
use Rattle.tb_writers.proofs.Parts.{without_fault, with_fault}
use Rattle.tb_writers.proofs.mask.has_shape.Goals as goal

pub returns-in-None : goal.returns-in-None
returns-in-None c = without_fault (sense (names_of c.args.scope.now) c.args.expr.now).faults c.fault_in.result c.fault_in.ensures c.in-None.is

pub returns-in-Some : goal.returns-in-Some
returns-in-Some c = with_fault (sense (names_of c.args.scope.now) c.args.expr.now).faults c.fault_in.result _ c.fault_in.ensures c.in-Some.is
