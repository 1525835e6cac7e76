use Rattle.std.proofs.Common.{◌≡◌, ◌+◌, vec_len}
use Rattle.model_guide.proofs.guide.free_values.Given as goal

abbrev pub invariant-loop-v : goal.invariant-loop-v
invariant-loop-v l = vec_len l.values ≡ l.v + 1
