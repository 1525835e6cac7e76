use Rattle.vlog_token.proofs.Common.{◌≡◌, ℕ, ◌+◌, ◌<◌, get_or}
use Rattle.vlog_token.proofs.gap.first_close.Given as goal

abbrev pub invariant-loop-slash : goal.invariant-loop-slash
invariant-loop-slash l = (k : ℕ) → k + 1 < l.slash → get_or l.bytes k 0 ≡ 42 → get_or l.bytes (k + 1) 0 ≡ 47 → ⊥
