use Rattle.project_options.proofs.Common.{◌≡◌, ◌+◌, [], drop, map, take, around_of, option_fault}
use Rattle.project_lines.specs.Checks.{first_fault}
use Rattle.project_options.proofs.options.check_options.Given as goal

abbrev pub invariant-loop-i : goal.invariant-loop-i
invariant-loop-i l = first_fault (option_fault (around_of l.around)) (map (λ line. line.now) (take l.i l.lines)) (l.number + l.i) (map (λ line. line.now) (drop l.i l.lines)) ≡ first_fault (option_fault (around_of l.around)) [] l.number (map (λ line. line.now) l.lines)
