use denote.Shadow.{shadow}
use denote.Text.{Utf8}
use Rattle.project_lines.proofs.Common.{◌≡◌, ◌++◌, length, map, prefix_len, is_blank, words}
use Rattle.project_lines.proofs.lines.words.Given as goal

abbrev pub invariant-loop-rest : goal.invariant-loop-rest
invariant-loop-rest l = (map (λ word. word.now) l.words.items ++ words l.rest ≡ words l.text) × (prefix_len is_blank l.rest ≡ 0) × shadow (Utf8 l.rest)

abbrev pub decreases-loop-rest : goal.decreases-loop-rest
decreases-loop-rest l = length l.rest
