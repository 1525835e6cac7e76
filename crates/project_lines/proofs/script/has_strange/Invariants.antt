use Rattle.project_lines.proofs.Common.{◌≡◌, drop, map, has_strange}
use Rattle.project_lines.proofs.script.has_strange.Given as goal

abbrev pub invariant-loop-word : goal.invariant-loop-word
invariant-loop-word l = has_strange l.command (map (λ word. word.now) (drop l.word-index l.args)) ≡ has_strange l.command (map (λ word. word.now) l.args)
