use Rattle.report_script.proofs.Common.{◌≡◌, map, drop, Printing, choice, chosen}
use Rattle.report_script.proofs.running.picked.Given as goal

abbrev pub invariant-loop-i : goal.invariant-loop-i
invariant-loop-i l = (other : Printing) → chosen (map choice (drop l.i l.arms)) other l.counts ≡ chosen (map choice l.arms) other l.counts
