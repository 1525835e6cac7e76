use Rattle.tb_checks.proofs.Common.{◌∙◌, ap, Shape, least, names_of, sense, own_zeros, kept, passed, divisions, net_wrong}
use Rattle.tb_checks.proofs.Whole.{net_is_whole}
use Rattle.tb_checks.proofs.nets.form_fault.Goals as goal

pub shape_of-requires-in-None : goal.shape_of-requires-in-None
shape_of-requires-in-None c = net_is_whole (names_of c.args.scope.now) c.args.expr.now c.net_wrong_in.result c.net_wrong_in.ensures c.in-None.is

pub zero_in-requires-clause-whole : goal.zero_in-requires-clause-whole
zero_in-requires-clause-whole c = net_is_whole (names_of c.args.scope.now) c.args.expr.now c.net_wrong_in.result c.net_wrong_in.ensures c.in-None.is

pub returns-in-Some : goal.returns-in-Some
returns-in-Some c = kept (net_wrong (names_of c.args.scope.now) c.args.expr.now) (divisions (own_zeros (sense (names_of c.args.scope.now) c.args.expr.now))) c.net_wrong_in.result c.in-Some.fault c.net_wrong_in.ensures c.in-Some.is

pub returns-in-None : goal.returns-in-None
returns-in-None c =
    let x = sense (names_of c.args.scope.now) c.args.expr.now in
    passed (net_wrong (names_of c.args.scope.now) c.args.expr.now) (divisions (own_zeros x)) c.net_wrong_in.result c.zero_in.result c.net_wrong_in.ensures c.in-None.is (c.zero_in.ensures ∙ ap (λ (s : Shape). least (divisions (x.zeros s))) c.shape_of.ensures.shape)
