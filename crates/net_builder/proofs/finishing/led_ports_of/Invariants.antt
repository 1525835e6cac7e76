use Rattle.net_builder.proofs.Common.{◌≡◌, map, take, all_led, known_of, end_in}
use Rattle.net_builder.proofs.finishing.led_ports_of.Given as goal

abbrev pub invariant-loop-bits : goal.invariant-loop-bits
invariant-loop-bits l = l.found.items ≡ map (all_led (end_in (known_of l.trace))) (take l.bits-index l.ports)
