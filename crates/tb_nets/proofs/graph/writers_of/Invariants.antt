use Rattle.tb_nets.proofs.Common.{List, ℕ, names_of, wiring, rows_of, AreWriters}
use Rattle.tb_nets.proofs.graph.writers_of.Given as goal

abbrev pub invariant-loop-number : goal.invariant-loop-number
invariant-loop-number l = (inputs : List ℕ) → AreWriters (wiring (names_of l.scope) inputs l.outputs) l.nodes l.number (rows_of l.writers)
