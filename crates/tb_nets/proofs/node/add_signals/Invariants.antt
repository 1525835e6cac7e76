use Rattle.tb_nets.proofs.Common.{◌≡◌, ℕ, ◌||◌, take, bits_in, signal_bits}
use Rattle.tb_nets.proofs.node.add_signals.Given as goal

abbrev pub invariant-loop-number : goal.invariant-loop-number
invariant-loop-number l = (n i : ℕ) → bits_in l.masks n i ≡ (bits_in l.fn.masks n i || signal_bits (take l.number-index l.numbers) n i)
