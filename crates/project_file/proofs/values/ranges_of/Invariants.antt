use Rattle.project_file.proofs.Common.{◌≡◌, map, take, paths_in}
use Rattle.project_file.specs.Values.{range_of}
use Rattle.project_file.proofs.values.ranges_of.Given as goal

abbrev pub invariant-loop-word : goal.invariant-loop-word
invariant-loop-word l = l.ranges ≡ map (range_of (paths_in l.paths)) (map (λ word. word.now) (take l.word-index l.words))
