use Rattle.project_file.proofs.Common.{◌≡◌, ◌+◌, ◌++◌, drop, map, numbered}
use Rattle.project_file.proofs.read.numbered.Given as goal

abbrev pub invariant-loop-i : goal.invariant-loop-i
invariant-loop-i l = l.all ++ numbered (l.number + l.i) (map (λ line. line.now) (drop l.i l.lines)) ≡ numbered l.number (map (λ line. line.now) l.lines)
