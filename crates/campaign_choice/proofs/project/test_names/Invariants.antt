use Rattle.campaign_choice.proofs.Common.{◌≡◌, map, take}
use Rattle.campaign_choice.proofs.project.test_names.Given as goal

abbrev pub invariant-loop-test : goal.invariant-loop-test
invariant-loop-test l = l.names.items ≡ map (λ test. test.name) (take l.test-index l.tests)
