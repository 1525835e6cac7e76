use Rattle.sat_solver.proofs.Common.{◌≢◌, take, None, All, known_of}
use Rattle.sat_solver.proofs.decide.open_bit.Given as goal

abbrev pub invariant-loop-v : goal.invariant-loop-v
invariant-loop-v l = All (λ w. known_of l.values w ≢ None) (take l.v-index l.bits)
