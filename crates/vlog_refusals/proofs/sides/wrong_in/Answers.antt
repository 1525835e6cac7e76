use Rattle.vlog_refusals.proofs.Common.{names_of, sense}
use Rattle.vlog_refusals.proofs.sides.wrong_in.Goals as goal

pub returns : goal.returns
returns g c = c.earlier.ensures.joined (sense (names_of c.args.scope.now) c.args.expr.now).faults (g.P.Purpose.unsupported (names_of c.args.scope.now) c.args.expr.now) c.fault_in.ensures c.unsupported_in.ensures
