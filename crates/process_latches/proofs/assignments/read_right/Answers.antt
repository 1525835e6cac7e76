use Rattle.process_latches.proofs.Common.{on_ok_weaker, names_of, right_faults}
use Rattle.process_latches.proofs.Assigned.{right_read}
use Rattle.process_latches.proofs.Reading.{right_shaped}
use Rattle.process_latches.proofs.assignments.read_right.Goals as goal

pub read_by-requires : goal.read_by-requires
read_by-requires c = λ none. right_shaped (names_of c.args.scope.now) c.in_ok-form.form c.get-value.result.now c.right_fault-fault.result c.right_fault-fault.ensures none

pub returns : goal.returns
returns c = on_ok_weaker c.read_by.result (λ h. right_read (names_of c.args.scope.now) c.args.assignment.now.left c.in_ok-form.form c.args.assignment.now.value c.get-value.result.now _ _ c.in_ok-form.ensures c.get-value.ensures (h (right_faults (names_of c.args.scope.now) c.in_ok-form.form c.get-value.result.now) c.right_fault-fault.ensures)) c.read_by.ensures
