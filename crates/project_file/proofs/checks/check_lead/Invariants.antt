use Rattle.project_file.proofs.Common.{◌≡◌, ◌+◌, [], drop, map, take, first_fault, lead_fault}
use Rattle.project_file.proofs.checks.check_lead.Given as goal

abbrev pub invariant-loop-i : goal.invariant-loop-i
invariant-loop-i l = first_fault lead_fault (map (λ line. line.now) (take l.i l.lines)) (1 + l.i) (map (λ line. line.now) (drop l.i l.lines)) ≡ first_fault lead_fault [] 1 (map (λ line. line.now) l.lines)
