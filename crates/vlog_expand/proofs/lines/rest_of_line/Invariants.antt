use Rattle.vlog_expand.proofs.Common.{◌≡◌, ◌++◌, take, drop, behind_line, rest_of_line}
use Rattle.vlog_expand.proofs.lines.rest_of_line.Given as goal

abbrev pub invariant-loop-i : goal.invariant-loop-i
invariant-loop-i l =
    (rest_of_line l.line l.tokens ≡ take l.i l.tokens ++ rest_of_line l.line (drop l.i l.tokens))
    × (behind_line l.line l.tokens ≡ behind_line l.line (drop l.i l.tokens))
