use Rattle.elab_hier.proofs.Common.{◌≡◌, ◌++◌, drop, slice_get, own_in, flat_of, port_numbers}
use Rattle.elab_hier.proofs.ports.port_numbers.Given as goal

abbrev pub invariant-loop-port : goal.invariant-loop-port
invariant-loop-port l =
    l.numbers.items ++ port_numbers l.direction (flat_of l.flat).signals (own_in (slice_get (flat_of l.flat).places 0)) (drop l.port-index l.ports) ≡ port_numbers l.direction (flat_of l.flat).signals (own_in (slice_get (flat_of l.flat).places 0)) l.ports
