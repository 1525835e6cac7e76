use Rattle.elab_items.proofs.Common.{◌≡◌, ◌+◌, ◌≤◌, length, empty, own_bits, AreSized, bits_of, declared, max_bits}
use Rattle.elab_items.proofs.signals.declare_signals.Given as goal

abbrev pub invariant-loop-rest : goal.invariant-loop-rest
invariant-loop-rest l = AreSized l.rest × (declared l.rest l.builder ≡ declared l.initial.rest empty) × (own_bits l.builder.declared + bits_of l.rest ≡ bits_of l.initial.rest) × (own_bits l.builder.declared ≤ max_bits)

abbrev pub decreases-loop-rest : goal.decreases-loop-rest
decreases-loop-rest l = length l.rest
