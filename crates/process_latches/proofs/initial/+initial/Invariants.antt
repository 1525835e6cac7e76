use Rattle.process_latches.proofs.Common.{◌+◌, ◌*◌, take, flat_map, names_of, IsFirst}
use Rattle.process_latches.specs.Initial.{initial_refusals}
use Rattle.process_latches.proofs.initial.+initial.Given as goal

abbrev pub decreases-initial_refusal : goal.decreases-initial_refusal
decreases-initial_refusal l = 2 * goal.size-initial_refusal l

abbrev pub decreases-block_refusal : goal.decreases-block_refusal
decreases-block_refusal l = 2 * goal.size-block_refusal l + 1

abbrev pub invariant-block_refusal-loop-stmt : goal.invariant-block_refusal-loop-stmt
invariant-block_refusal-loop-stmt l = IsFirst (flat_map (initial_refusals (names_of l.fn.scope)) (take l.stmt-index l.fn.body)) l.found
