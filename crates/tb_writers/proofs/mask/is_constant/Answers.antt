use Rattle.tb_writers.proofs.Common.{names_of, sense, constant_faults}
use Rattle.tb_writers.proofs.Parts.{without_fault, with_fault}
use Rattle.tb_writers.proofs.mask.is_constant.Goals as goal

pub returns-in-None : goal.returns-in-None
returns-in-None c = without_fault (constant_faults (sense (names_of c.args.scope.now) c.args.expr.now)) c.constant_fault.result c.constant_fault.ensures c.in-None.is

pub returns-in-Some : goal.returns-in-Some
returns-in-Some c = with_fault (constant_faults (sense (names_of c.args.scope.now) c.args.expr.now)) c.constant_fault.result _ c.constant_fault.ensures c.in-Some.is
