use Rattle.campaign_choice.proofs.Common.{◌≡◌, map, take, kind_of}
use Rattle.campaign_choice.proofs.project.test_kinds.Given as goal

abbrev pub invariant-loop-test : goal.invariant-loop-test
invariant-loop-test l = l.kinds.items ≡ map (λ test. kind_of test.kind) (take l.test-index l.tests)
