use Rattle.process_latches.proofs.Common.{names_of}
use Rattle.process_latches.proofs.Assigned.{assign_marked}
use Rattle.process_latches.proofs.assignments.mark_assignment.Goals as goal

pub returns : goal.returns
returns c = assign_marked (names_of c.args.scope.now) c.args.is_blocking c.args.assignment.now c.first_token.result _ _ _ _ _ c.first_token.ensures c.in_ok-read_right.ensures c.new-left.ensures c.in_ok-mark_left.ensures c.in_ok-add.ensures
