use Rattle.tag_script.proofs.Common.{◌≡◌, map, drop, decided, value_of, heard, datum_of, number}
use Rattle.tag_script.proofs.evaluation.+value_of.Given as goal

abbrev pub invariant-decided-loop-operand : goal.invariant-decided-loop-operand
invariant-decided-loop-operand l = heard l.asked.expect.now l.asked.results (decided l.deciding (datum_of l.last) (map value_of (drop l.operand-index l.operands)) (map datum_of l.names)) ≡ heard l.asked.expect.now l.asked.results (decided l.deciding (number 0) (map value_of l.operands) (map datum_of l.names))
