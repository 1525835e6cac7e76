use Rattle.process_latches.proofs.Common.{◌∙◌, sym, names_of, left_nil, least_none, wrong}
use Rattle.process_latches.proofs.Reading.{right_by, right_whole}
use Rattle.process_latches.proofs.assignments.right_fault.Goals as goal

pub assigned_fault-requires : goal.assigned_fault-requires
assigned_fault-requires c = left_nil _ _ (least_none (wrong (names_of c.args.scope.now) c.args.left.now) (sym c.wrong_in.ensures ∙ c.in-None.is))

pub returns-in-Some : goal.returns-in-Some
returns-in-Some c = right_by (names_of c.args.scope.now) c.args.left.now c.args.right.now c.in-Some.field-0 _ (sym c.in-Some.is ∙ c.wrong_in.ensures) c.wrong_in-in-Some.ensures

pub returns-in-None : goal.returns-in-None
returns-in-None c = right_whole (names_of c.args.scope.now) c.args.left.now c.args.right.now _ (least_none (wrong (names_of c.args.scope.now) c.args.left.now) (sym c.wrong_in.ensures ∙ c.in-None.is)) c.assigned_fault.ensures
