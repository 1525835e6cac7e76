use Rattle.process_cells.proofs.Common.{IfOk-weaker, names_of, steps_of}
use Rattle.process_cells.proofs.Items.{marked_numbers}
use Rattle.process_cells.proofs.process.numbers_of.Goals as goal

pub returns-clause-numbers : goal.returns-clause-numbers
returns-clause-numbers c = IfOk-weaker c.variables_of.result _ _ (λ l h. marked_numbers (steps_of c.args.body.now (names_of c.args.scope.now)) c.new-marks.result c.mark.new.marks c.as_slice.result.now l.items c.new-marks.ensures c.in_ok-mark.ensures.marked c.as_slice.ensures.value h) c.variables_of.ensures
