use Rattle.project_options.proofs.Common.{◌≡◌, drop, map, list_all, around_of, is_of_design}
use Rattle.project_options.proofs.options.are_of_design.Given as goal

abbrev pub invariant-loop-word : goal.invariant-loop-word
invariant-loop-word l = list_all (is_of_design (around_of l.around)) (map (λ word. word.now) (drop l.word-index l.words)) ≡ list_all (is_of_design (around_of l.around)) (map (λ word. word.now) l.words)
