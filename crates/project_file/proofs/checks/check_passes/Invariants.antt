use Rattle.project_file.proofs.Common.{◌≡◌, drop, map, missing_pass, seen}
use Rattle.project_file.proofs.checks.check_passes.Given as goal

abbrev pub invariant-loop-i : goal.invariant-loop-i
invariant-loop-i l = missing_pass l.i (map seen (drop l.i l.tests)) ≡ missing_pass 0 (map seen l.tests)
