use Rattle.step_trials.proofs.Common.{◌≡◌, length, design, GivesAll}
use Rattle.step_trials.proofs.design.all_given.Given as goal

abbrev pub invariant-loop-number : goal.invariant-loop-number
invariant-loop-number l = record {
  count : length l.list.items ≡ l.number;
  gives : GivesAll (design l.netlist.raw) l.list.items;
}
