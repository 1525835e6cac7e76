use Rattle.tb_writers.proofs.Common.{◌≡◌, ◌++◌, map, drop}
use Rattle.tb_writers.specs.Lefts.{joined, stmt_lefts, case_lefts}
use Rattle.tb_writers.proofs.lefts.+walk.Given as goal

abbrev pub invariant-add_stmts-loop-stmt : goal.invariant-add_stmts-loop-stmt
invariant-add_stmts-loop-stmt l = l.lefts.items ++ joined (map stmt_lefts (drop l.stmt-index l.body)) ≡ l.initial.lefts.items ++ joined (map stmt_lefts l.body)

abbrev pub invariant-add_cases-loop-item : goal.invariant-add_cases-loop-item
invariant-add_cases-loop-item l = l.lefts.items ++ joined (map case_lefts (drop l.item-index l.items)) ≡ l.initial.lefts.items ++ joined (map case_lefts l.items)
