use Rattle.project_file.proofs.Common.{◌≡◌, drop, map, missing_kind, seen}
use Rattle.project_file.proofs.checks.check_kinds.Given as goal

abbrev pub invariant-loop-i : goal.invariant-loop-i
invariant-loop-i l = missing_kind l.i (map seen (drop l.i l.tests)) ≡ missing_kind 0 (map seen l.tests)
