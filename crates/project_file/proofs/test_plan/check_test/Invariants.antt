use Rattle.project_file.proofs.Common.{◌≡◌, ◌+◌, [], drop, map, take, first_fault, gather, with_names, test_fault, test_reads}
use Rattle.project_file.proofs.test_plan.check_test.Given as goal

abbrev pub invariant-loop-i : goal.invariant-loop-i
invariant-loop-i l = (first_fault (test_fault l.fn.read) (map (λ line. line.now) (take l.i l.lines)) (l.number + l.i) (map (λ line. line.now) (drop l.i l.lines)) ≡ first_fault (test_fault l.fn.read) [] l.number (map (λ line. line.now) l.lines)) × (l.read ≡ with_names l.fn.read (gather test_reads (map (λ line. line.now) (take l.i l.lines))))
