use Rattle.net_builder.proofs.Common.{◌≡◌, map, take, led_register, known_of, end_in}
use Rattle.net_builder.proofs.finishing.led_registers.Given as goal

abbrev pub invariant-loop-register : goal.invariant-loop-register
invariant-loop-register l = l.found.items ≡ map (led_register (end_in (known_of l.trace))) (take l.register-index l.registers)
