use Rattle.pair_gates.proofs.Common.{◌≡◌, drop, d_bits, lits_of}
use Rattle.pair_gates.proofs.Reading.{ahead}
use Rattle.pair_gates.proofs.pair.add_next.Given as goal

abbrev pub invariant-loop-register : goal.invariant-loop-register
invariant-loop-register l = ahead (lits_of l.lits) l.row.items (d_bits (drop l.register-index l.registers)) ≡ ahead (lits_of l.lits) l.initial.row.items (d_bits l.registers)
