use Rattle.tb_assigns.proofs.Common.{names_of}
use Rattle.tb_assigns.proofs.Checking.{check_is, check_can}
use Rattle.tb_assigns.proofs.check.can_assign.Goals as goal

pub returns-clause-value : goal.returns-clause-value
returns-clause-value c = check_is (names_of c.args.scope.now) c.args.assignment.now c.in_ok-left.left c.get.result.now c.has_shape-is_whole.result c.names_signals-are_signals.result c.has_shape-is_right_whole.result c.both.result c.both-2.result c.in_ok-left.ensures c.get.ensures c.has_shape-is_whole.ensures c.names_signals-are_signals.ensures c.has_shape-is_right_whole.ensures c.both.ensures c.both-2.ensures

pub returns-clause-can : goal.returns-clause-can
returns-clause-can c =
    check_can (names_of c.args.scope.now) c.args.assignment.now c.both-2.result
    (check_is (names_of c.args.scope.now) c.args.assignment.now c.in_ok-left.left c.get.result.now c.has_shape-is_whole.result c.names_signals-are_signals.result c.has_shape-is_right_whole.result c.both.result c.both-2.result c.in_ok-left.ensures c.get.ensures c.has_shape-is_whole.ensures c.names_signals-are_signals.ensures c.has_shape-is_right_whole.ensures c.both.ensures c.both-2.ensures)
