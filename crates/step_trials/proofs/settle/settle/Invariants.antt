use Rattle.step_trials.proofs.Common.{◌≡◌, drop, plain, after_order, nets_of}
use Rattle.step_trials.proofs.settle.settle.Given as goal

abbrev pub invariant-loop-i : goal.invariant-loop-i
invariant-loop-i l = after_order plain l.netlist.raw.cells (drop l.i l.netlist.order) (nets_of l.table) ≡ after_order plain l.netlist.raw.cells l.netlist.order (nets_of l.initial.table)
