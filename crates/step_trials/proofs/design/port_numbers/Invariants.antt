use Rattle.step_trials.proofs.Common.{◌≡◌, take, bits_at, port_numbers, nets_of}
use Rattle.step_trials.proofs.design.port_numbers.Given as goal

abbrev pub invariant-loop-port : goal.invariant-loop-port
invariant-loop-port l = l.list.items ≡ port_numbers (nets_of l.table) (bits_at (take l.port-index l.ports))
