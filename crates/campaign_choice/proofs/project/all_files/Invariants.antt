use Rattle.campaign_choice.proofs.Common.{◌≡◌, map, take, flat_map, with_names, design_files, kind_files}
use Rattle.campaign_choice.proofs.project.all_files.Given as goal

abbrev pub invariant-loop-test : goal.invariant-loop-test
invariant-loop-test l = map (λ n. n.now) l.names.items ≡ with_names (design_files l.project) (flat_map (λ t. kind_files t.kind) (take l.test-index l.project.tests))
