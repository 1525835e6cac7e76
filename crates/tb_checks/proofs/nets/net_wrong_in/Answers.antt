use Rattle.tb_checks.proofs.Common.{map, SystemFunction, names_of, fault, wrong, randoms}
use Rattle.tb_checks.proofs.nets.net_wrong_in.Goals as goal

pub returns : goal.returns
returns c = c.earlier.ensures.joined (wrong (names_of c.args.scope.now) c.args.expr.now) (map (fault SystemFunction) (randoms c.args.expr.now)) c.wrong_in.ensures c.random_in.ensures
