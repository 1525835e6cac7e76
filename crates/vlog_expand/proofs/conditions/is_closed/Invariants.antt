use Rattle.vlog_expand.proofs.Common.{◌≡◌, ◌≤◌, drop, is_closed, is_closed_from}
use Rattle.vlog_expand.proofs.conditions.is_closed.Given as goal

abbrev pub invariant-loop-token : goal.invariant-loop-token
invariant-loop-token l =
    (l.depth ≤ l.token-index)
    × (is_closed l.tokens ≡ is_closed_from l.depth l.line (drop l.token-index l.tokens))
