use Rattle.report_script.proofs.Common.{◌≡◌, map, drop, IsSmall}
use Rattle.report_script.specs.Values.{chained, pending}
use Rattle.report_script.proofs.evaluation.+value_of.Given as goal

abbrev pub invariant-chained-loop-term : goal.invariant-chained-loop-term
invariant-chained-loop-term l = record {
  value : chained (map pending (drop l.term-index l.terms)) l.value l.counts ≡ chained (map pending l.terms) l.fn.first l.counts;
  small : IsSmall l.value;
}
