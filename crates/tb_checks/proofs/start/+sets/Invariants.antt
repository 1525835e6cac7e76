use Rattle.tb_checks.proofs.Common.{◌≡◌, map, drop, some_sets, begun, rules_in}
use Rattle.tb_checks.proofs.start.+sets.Given as goal

abbrev pub invariant-one_sets_clock-loop-stmt : goal.invariant-one_sets_clock-loop-stmt
invariant-one_sets_clock-loop-stmt l = some_sets (map (begun (rules_in l.rules)) (drop l.stmt-index l.body)) ≡ some_sets (map (begun (rules_in l.rules)) l.body)
