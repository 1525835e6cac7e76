use Rattle.process_latches.proofs.Common.{◌∙◌, sym, on_ok_weaker, names_of, left_nil, these_nil, least_none, own_faults}
use Rattle.process_latches.proofs.marks.Marks.read_test.Goals as goal

pub read_by-requires : goal.read_by-requires
read_by-requires c = λ none. left_nil _ _ (these_nil _ _ (least_none (own_faults (names_of c.args.scope.now) c.args.expr.now) (sym c.own_fault-fault.ensures ∙ none)))

pub returns : goal.returns
returns c = on_ok_weaker c.read_by.result (λ h. h (own_faults (names_of c.args.scope.now) c.args.expr.now) c.own_fault-fault.ensures) c.read_by.ensures
