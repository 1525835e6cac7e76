use Rattle.elab_finish.proofs.Common.{◌<◌, ◌≤◌, ◌^◌, ℕ, IsBit}
use Rattle.elab_finish.proofs.nets.net_limit.Given as goal

abbrev pub invariant-loop-number : goal.invariant-loop-number
invariant-loop-number l = record { signals : (k i n : ℕ) → k < l.number → IsBit l.builder k i n → n < l.limit; few : l.limit ≤ 2 ^ 32 }
