use Rattle.campaign_choice.proofs.Common.{◌≡◌, ◌<◌, Bor, List, ℕ, length, get_or, map, rules, subst, TestPlan, design_files}
use Rattle.campaign_choice.proofs.Naming.{tests_step}
use Rattle.campaign_choice.proofs.project.all_files.Goals as goal

pub loop-test-preserved : goal.loop-test-preserved
loop-test-preserved c =
    let tests : List TestPlan = c.args.project.now.tests in
    let below : c.loop-test.test-index < length tests = subst (λ (ts : List TestPlan). c.loop-test.test-index < length ts) c.as_slice-test-items.ensures c.loop-test-test.true in
    let at : c.test-item.result ≡ get_or c.as_slice-test-items.result.now c.loop-test.test-index c.test-item.result = search rules in
    let is : c.test-item.result ≡ get_or tests c.loop-test.test-index c.test-item.result = subst (λ (ts : List TestPlan). c.test-item.result ≡ get_or ts c.loop-test.test-index c.test-item.result) c.as_slice-test-items.ensures at in
    tests_step (design_files c.args.project.now) tests c.loop-test.test-index c.test-item.result (map (λ (n : Bor (List ℕ)). n.now) c.loop-test.names.items) (map (λ (n : Bor (List ℕ)). n.now) c.add_test.new.names.items) below is c.loop-test.invariant c.in_ok-add_test.ensures
