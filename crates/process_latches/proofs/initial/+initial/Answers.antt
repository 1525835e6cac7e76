use Rattle.process_latches.proofs.Common.{arith, add-one, names_of}
use Rattle.process_latches.proofs.Initials.{block_first, assignment_first, block_more}
use Rattle.process_latches.proofs.initial.+initial.Goals as goal

pub block_refusal-loop-stmt-preserved : goal.block_refusal-loop-stmt-preserved
block_refusal-loop-stmt-preserved t c = rw add-one (block_more (names_of c.args.scope.now) c.args.body.now c.loop-stmt.stmt-index c.stmt-item.result c.loop-stmt.found c.initial_refusal.result c.earlier-found.result c.stmt-item.is (omega arith) c.loop-stmt.invariant c.initial_refusal.ensures c.earlier-found.ensures)

pub initial_refusal-returns-in-SeqBlock : goal.initial_refusal-returns-in-SeqBlock
initial_refusal-returns-in-SeqBlock t c = block_first (names_of c.args.scope.now) c.args.stmt.now c.in-SeqBlock.field-0 c.in-SeqBlock.field-1 c.in-SeqBlock.body c.block_refusal.result c.in-SeqBlock.is (rw c.as_slice.ensures at c.block_refusal.ensures)

pub initial_refusal-returns-in-BlockingAssignment : goal.initial_refusal-returns-in-BlockingAssignment
initial_refusal-returns-in-BlockingAssignment t c = assignment_first (names_of c.args.scope.now) c.args.stmt.now c.in-BlockingAssignment.assignment c.assignment_refusal.result c.in-BlockingAssignment.is c.assignment_refusal.ensures
