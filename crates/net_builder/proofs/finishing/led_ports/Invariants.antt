use Rattle.net_builder.proofs.Common.{◌≡◌, map, take, led_port, known_of, end_in}
use Rattle.net_builder.proofs.finishing.led_ports.Given as goal

abbrev pub invariant-loop-port : goal.invariant-loop-port
invariant-loop-port l = l.found.items ≡ map (led_port (end_in (known_of l.trace))) (take l.port-index l.ports)
