use Rattle.elab_finish.proofs.Common.{◌≡◌, map, take, port_of}
use Rattle.elab_finish.proofs.ports.ports.Given as goal

abbrev pub invariant-loop-number : goal.invariant-loop-number
invariant-loop-number l = l.found.items ≡ map (port_of l.builder) (take l.number-index l.numbers)
