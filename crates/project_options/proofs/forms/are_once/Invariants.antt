use Rattle.project_options.proofs.Common.{◌≡◌, drop, map, are_once}
use Rattle.project_options.proofs.forms.are_once.Given as goal

abbrev pub invariant-loop-i : goal.invariant-loop-i
invariant-loop-i l = are_once (map (λ word. word.now) (drop l.i l.words)) ≡ are_once (map (λ word. word.now) l.words)
