use Rattle.process_latches.proofs.Common.{◌∙◌, sym, ap, Shape, least, names_of, sense, assigned, left_nil, least_none, kept, passed, wrong, divisions, context_is}
use Rattle.process_latches.proofs.assignments.assigned_fault.Goals as goal

pub shape_of-own-requires-in-None : goal.shape_of-own-requires-in-None
shape_of-own-requires-in-None c = left_nil _ _ (least_none (wrong (names_of c.args.scope.now) c.args.right.now) (sym c.wrong_in.ensures ∙ c.in-None.is))

pub zero_in-requires-clause-whole : goal.zero_in-requires-clause-whole
zero_in-requires-clause-whole c = left_nil _ _ (least_none (wrong (names_of c.args.scope.now) c.args.right.now) (sym c.wrong_in.ensures ∙ c.in-None.is))

pub returns-in-Some : goal.returns-in-Some
returns-in-Some c =
    let names = names_of c.args.scope.now in
    let x = sense names c.args.left.now in
    let y = sense names c.args.right.now in
    kept (wrong names c.args.right.now) (divisions (y.zeros (assigned y x.shape.width))) c.wrong_in.result c.in-Some.fault c.wrong_in.ensures c.in-Some.is

pub returns-in-None : goal.returns-in-None
returns-in-None c =
    let names = names_of c.args.scope.now in
    let x = sense names c.args.left.now in
    let y = sense names c.args.right.now in
    passed (wrong names c.args.right.now) (divisions (y.zeros (assigned y x.shape.width))) c.wrong_in.result c.zero_in.result c.wrong_in.ensures c.in-None.is
    (c.zero_in.ensures ∙ ap (λ (s : Shape). least (divisions (y.zeros s))) (context_is c.shape_of-own.result c.shape_of-to.result y.shape x.shape c.max.result c.max.ensures c.shape_of-own.ensures.shape c.shape_of-to.ensures.shape))
