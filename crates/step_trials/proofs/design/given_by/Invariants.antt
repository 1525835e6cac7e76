use Rattle.step_trials.proofs.Common.{◌≡◌, ◌++◌, take, bits_at, d_bits, port_numbers, nets_of}
use Rattle.step_trials.proofs.design.given_by.Given as goal

abbrev pub invariant-loop-register : goal.invariant-loop-register
invariant-loop-register l = l.list.items ≡ port_numbers (nets_of l.table) (bits_at l.outputs) ++ port_numbers (nets_of l.table) (d_bits (take l.register-index l.registers))
