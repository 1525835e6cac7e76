use Rattle.process_latches.proofs.Common.{◌∙◌, sym, on_ok_weaker, names_of, left_nil, least_none, wrong}
use Rattle.process_latches.proofs.marks.Marks.read.Goals as goal

pub read_by-requires : goal.read_by-requires
read_by-requires c = λ none. left_nil _ _ (least_none (wrong (names_of c.args.scope.now) c.args.expr.now) (sym c.wrong_in-fault.ensures ∙ none))

pub returns : goal.returns
returns c = on_ok_weaker c.read_by.result (λ h. h (wrong (names_of c.args.scope.now) c.args.expr.now) c.wrong_in-fault.ensures) c.read_by.ensures
