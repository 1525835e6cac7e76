use Rattle.project_file.proofs.Common.{◌≡◌, map, take, test_of, seen}
use Rattle.project_file.proofs.read.plans_of.Given as goal

abbrev pub invariant-loop-test : goal.invariant-loop-test
invariant-loop-test l = l.plans ≡ map test_of (map seen (take l.test-index l.tests))
