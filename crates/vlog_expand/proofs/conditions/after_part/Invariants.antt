use Rattle.vlog_expand.proofs.Common.{◌≡◌, ◌≤◌, drop, after_part, after_part_from}
use Rattle.vlog_expand.proofs.conditions.after_part.Given as goal

abbrev pub invariant-loop-i : goal.invariant-loop-i
invariant-loop-i l =
    (l.depth ≤ l.i)
    × (after_part l.tokens ≡ after_part_from l.depth l.line (drop l.i l.tokens))
