use Rattle.process_cells.proofs.Common.{refl, arith, add-one, rules, names_of}
use Rattle.vlog_syntax.specs.declared.stmt.Stmt.TheViews.{the_lemmas}
use Rattle.process_cells.proofs.Starting.{same_others, signals_stay, goes_done, turn_more, block_starts, assignment_starts}
use Rattle.process_cells.proofs.starts.+starts.Goals as goal

pub start_block-loop-stmt-init : goal.start_block-loop-stmt-init
start_block-loop-stmt-init t c = (λ none. goes_done c.args.builder.now, refl)

pub start_block-start_statement-requires : goal.start_block-start_statement-requires
start_block-start_statement-requires t c = (search (rules, the_lemmas), (c.requires.sized, signals_stay (names_of c.args.scope.now) c.args.builder.now c.loop-stmt.builder c.loop-stmt.invariant.1 c.requires.signals))

pub start_block-loop-stmt-preserved : goal.start_block-loop-stmt-preserved
start_block-loop-stmt-preserved t c = (
  rw add-one (turn_more (names_of c.args.scope.now) c.args.body.now c.loop-stmt.stmt-index c.stmt-item.result c.args.builder.now c.loop-stmt.builder c.start_statement.new.builder c.stmt-item.is (omega arith) c.loop-stmt.invariant.0 c.start_statement.ensures.starts),
  same_others c.args.builder.now c.loop-stmt.builder c.start_statement.new.builder c.loop-stmt.invariant.1 c.start_statement.ensures.others,
)

pub start_statement-returns-in-SeqBlock-clause-starts : goal.start_statement-returns-in-SeqBlock-clause-starts
start_statement-returns-in-SeqBlock-clause-starts t c = block_starts (names_of c.args.scope.now) c.args.stmt.now c.in-SeqBlock.field-0 c.in-SeqBlock.field-1 c.in-SeqBlock.body c.as_slice.result.now c.args.builder.now c.start_block.new.builder c.in-SeqBlock.is c.as_slice.ensures c.start_block.ensures.starts

pub start_statement-returns-in-BlockingAssignment-clause-starts : goal.start_statement-returns-in-BlockingAssignment-clause-starts
start_statement-returns-in-BlockingAssignment-clause-starts t c = assignment_starts (names_of c.args.scope.now) c.args.stmt.now c.in-BlockingAssignment.assignment c.args.builder.now c.start_assignment.new.builder c.in-BlockingAssignment.is c.start_assignment.ensures.starts
