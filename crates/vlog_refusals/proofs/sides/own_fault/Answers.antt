use Rattle.vlog_refusals.proofs.Common.{◌∙◌, sym, ap, Shape, least, names_of, sense, own_zeros, least_none, kept, passed, wrong, divisions}
use Rattle.vlog_refusals.proofs.SideLemmas.{whole_of}
use Rattle.vlog_refusals.proofs.sides.own_fault.Goals as goal

pub shape_of-requires-in-None : goal.shape_of-requires-in-None
shape_of-requires-in-None g c = whole_of g.P.Purpose.unsupported (names_of c.args.scope.now) c.args.expr.now (least_none (wrong g.P.Purpose.unsupported (names_of c.args.scope.now) c.args.expr.now) (sym c.wrong_in.ensures ∙ c.in-None.is))

pub zero_in-requires-clause-whole : goal.zero_in-requires-clause-whole
zero_in-requires-clause-whole g c = whole_of g.P.Purpose.unsupported (names_of c.args.scope.now) c.args.expr.now (least_none (wrong g.P.Purpose.unsupported (names_of c.args.scope.now) c.args.expr.now) (sym c.wrong_in.ensures ∙ c.in-None.is))

pub returns-in-Some : goal.returns-in-Some
returns-in-Some g c =
    let x = sense (names_of c.args.scope.now) c.args.expr.now in
    kept (wrong g.P.Purpose.unsupported (names_of c.args.scope.now) c.args.expr.now) (divisions (own_zeros x)) c.wrong_in.result c.in-Some.fault c.wrong_in.ensures c.in-Some.is

pub returns-in-None : goal.returns-in-None
returns-in-None g c =
    let x = sense (names_of c.args.scope.now) c.args.expr.now in
    passed (wrong g.P.Purpose.unsupported (names_of c.args.scope.now) c.args.expr.now) (divisions (own_zeros x)) c.wrong_in.result c.zero_in.result c.wrong_in.ensures c.in-None.is (c.zero_in.ensures ∙ ap (λ (s : Shape). least (divisions (x.zeros s))) c.shape_of.ensures.shape)
