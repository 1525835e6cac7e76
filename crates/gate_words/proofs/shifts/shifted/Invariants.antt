use Rattle.gate_words.proofs.Common.{◌-◌, length}
use Rattle.gate_words.proofs.ShiftLemmas.{ShiftAhead}
use Rattle.gate_words.proofs.shifts.shifted.Given as goal

abbrev pub invariant-loop-place : goal.invariant-loop-place
invariant-loop-place l = ShiftAhead l.way l.fill l.fn.gates l.bits l.places l.place l.weight l.gates l.found.items

abbrev pub decreases-loop-place : goal.decreases-loop-place
decreases-loop-place l = length l.places - l.place
