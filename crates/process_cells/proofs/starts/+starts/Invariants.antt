use Rattle.process_cells.proofs.Common.{◌≡◌, ◌+◌, ◌*◌, [], map, take, flat_map, names_of, in_turn, steps_of, initial_refusals}
use Rattle.process_cells.specs.Starts.{SameButStarts, GoesOn}
use Rattle.process_cells.proofs.starts.+starts.Given as goal

abbrev pub decreases-start_statement : goal.decreases-start_statement
decreases-start_statement l = 2 * goal.size-start_statement l

abbrev pub decreases-start_block : goal.decreases-start_block
decreases-start_block l = 2 * goal.size-start_block l + 1

abbrev pub invariant-start_block-loop-stmt : goal.invariant-start_block-loop-stmt
invariant-start_block-loop-stmt l = (flat_map (initial_refusals (names_of l.fn.scope)) (take l.stmt-index l.fn.body) ≡ [] → GoesOn (in_turn (map steps_of (take l.stmt-index l.fn.body)) (names_of l.fn.scope)) l.fn.builder l.builder) × SameButStarts l.fn.builder l.builder
