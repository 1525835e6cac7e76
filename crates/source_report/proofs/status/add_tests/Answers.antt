use Rattle.source_report.proofs.Common.{◌≡◌, ◌++◌, [], length, drop, get_or, string_bytes, ap, sym, ◌∙◌, append-nil, arith, drop_all, test_lines}
use Rattle.source_report.proofs.Lines.{test_lines-more}
use Rattle.source_report.proofs.status.add_tests.Goals as goal

pub loop-test-preserved : goal.loop-test-preserved
loop-test-preserved c groups same =
    let campaign = c.args.campaign.now in
    let long = ap length c.as_slice-name-items.ensures in
    test_lines-more groups c.loop-test.test campaign.test_names campaign.kinds c.as_str.result.now (string_bytes c.loop-test.text) (string_bytes c.add_test.new.text) _
    (omega (arith, long, c.loop-test-test.true)) (omega (arith, long, c.loop-test-test.true, c.requires.fit.names)) (cc) (ap (λ kinds. get_or kinds c.loop-test.test 0) c.as_slice.ensures) (c.in_ok-add_test.ensures groups same)
    ∙ c.loop-test.invariant groups same

pub returns : goal.returns
returns c groups same =
    let campaign = c.args.campaign.now in
    let none : drop c.loop-test.test campaign.test_names ≡ [] = (let long = ap length c.as_slice-name-items.ensures in drop_all c.loop-test.test campaign.test_names (omega (arith, long, c.loop-test-test.false))) in
    sym (append-nil (string_bytes c.loop-test.text))
    ∙ ap (λ names. string_bytes c.loop-test.text ++ test_lines groups c.loop-test.test names (drop c.loop-test.test campaign.kinds)) (sym none)
    ∙ c.loop-test.invariant groups same
