use Rattle.tag_script.proofs.Common.{◌≡◌, map, drop, Doing, choice, chosen, doing, in_turn, heard, standing_of}
use Rattle.tag_script.proofs.evaluation.+doing.Given as goal

abbrev pub invariant-in_turn-loop-statement : goal.invariant-in_turn-loop-statement
invariant-in_turn-loop-statement l = heard l.asked.expect.now l.asked.results (in_turn (map doing (drop l.statement-index l.statements)) (standing_of l.state)) ≡ heard l.asked.expect.now l.asked.results (in_turn (map doing l.statements) (standing_of l.fn.state))

abbrev pub invariant-taken-loop-arm : goal.invariant-taken-loop-arm
invariant-taken-loop-arm l = (other : Doing) → heard l.asked.expect.now l.asked.results (chosen (map choice (drop l.arm-index l.arms)) other (standing_of l.state)) ≡ heard l.asked.expect.now l.asked.results (chosen (map choice l.arms) other (standing_of l.state))
