use Rattle.net_builder.proofs.Common.{◌≡◌, take, all_led, known_of, end_in}
use Rattle.net_builder.proofs.finishing.led_bits.Given as goal

abbrev pub invariant-loop-bit : goal.invariant-loop-bit
invariant-loop-bit l = l.found.items ≡ all_led (end_in (known_of l.trace)) (take l.bit-index l.bits)
