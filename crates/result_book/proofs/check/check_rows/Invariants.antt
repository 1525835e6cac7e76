use Rattle.result_book.proofs.Common.{[], take, AreRowsIn, IsStateOf}
use Rattle.result_book.proofs.Formats.{seconds}
use Rattle.result_book.proofs.check.check_rows.Given as goal

-- the rows so far are in form, and the state is that of them in the second format
abbrev pub invariant-loop-row : goal.invariant-loop-row
invariant-loop-row l = AreRowsIn l.first l.campaign [] (take l.row-index l.row-items) × IsStateOf l.campaign (seconds l.first l.campaign (take l.row-index l.row-items)) l.state
