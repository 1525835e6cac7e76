use Rattle.cycle_sim.proofs.Common.{◌≡◌, ℕ, ◌-◌, ◌<◌, length, mark_at, front, AreHeld}
use Rattle.cycle_sim.proofs.cycle.settle_cells.Given as goal

abbrev pub invariant-loop-place : goal.invariant-loop-place
invariant-loop-place l = record {
  held : AreHeld l.netlist l.table.items l.marks.items;
  front : front l.netlist.raw l.table.items ≡ front l.netlist.raw l.initial.table.items;
  before : (k : ℕ) → k < l.place → mark_at l.marks.items k ≡ 0;
}

abbrev pub decreases-loop-place : goal.decreases-loop-place
decreases-loop-place l = length l.netlist.order - l.place
