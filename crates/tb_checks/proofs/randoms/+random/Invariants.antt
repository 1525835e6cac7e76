use Rattle.tb_checks.proofs.Common.{◌≡◌, take, map, SystemFunction, least_at, randoms, all_randoms}
use Rattle.tb_checks.proofs.randoms.+random.Given as goal

abbrev pub invariant-random_in_all-loop-expr : goal.invariant-random_in_all-loop-expr
invariant-random_in_all-loop-expr l = l.found ≡ least_at SystemFunction (all_randoms (map randoms (take l.expr-index l.exprs)))
