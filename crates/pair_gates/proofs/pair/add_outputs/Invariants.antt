use Rattle.pair_gates.proofs.Common.{◌≡◌, drop, bits_at, lits_of}
use Rattle.pair_gates.proofs.Reading.{ahead}
use Rattle.pair_gates.proofs.pair.add_outputs.Given as goal

abbrev pub invariant-loop-port : goal.invariant-loop-port
invariant-loop-port l = ahead (lits_of l.lits) l.row.items (bits_at (drop l.port-index l.ports)) ≡ ahead (lits_of l.lits) l.initial.row.items (bits_at l.ports)
