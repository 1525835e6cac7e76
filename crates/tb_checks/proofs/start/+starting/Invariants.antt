use Rattle.tb_checks.proofs.Common.{◌≡◌, true, map, take, IsFirst, block_faults, begun, rules_in}
use Rattle.tb_checks.proofs.Begun.{still_may}
use Rattle.tb_checks.proofs.start.+starting.Given as goal

abbrev pub invariant-block_fault-loop-stmt : goal.invariant-block_fault-loop-stmt
invariant-block_fault-loop-stmt l = (l.may_start ≡ still_may (rules_in l.rules) true (map (begun (rules_in l.rules)) (take l.stmt-index l.body))) × IsFirst (block_faults (rules_in l.rules) true (map (begun (rules_in l.rules)) (take l.stmt-index l.body))) l.found
