use Rattle.source_report.proofs.Common.{◌≡◌, ◌++◌, List, drop, map, string_bytes, Answer, words_of, test_lines}
use Rattle.source_report.proofs.status.add_tests.Given as goal

-- the lines so far and those to come are all lines
abbrev pub invariant-loop-test : goal.invariant-loop-test
invariant-loop-test l =
    (groups : List (List Answer)) → l.reads ≡ map words_of groups
    → string_bytes l.text ++ test_lines groups l.test (drop l.test l.campaign.test_names) (drop l.test l.campaign.kinds)
    ≡ string_bytes l.initial.text ++ test_lines groups 0 l.campaign.test_names l.campaign.kinds
