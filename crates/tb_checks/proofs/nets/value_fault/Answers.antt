use Rattle.tb_checks.proofs.Common.{◌∙◌, ap, Shape, least, names_of, sense, assigned, kept, passed, divisions, net_wrong}
use Rattle.tb_checks.proofs.Whole.{net_is_whole, assigned_is}
use Rattle.tb_checks.proofs.nets.value_fault.Goals as goal

pub shape_of-own-requires-in-None : goal.shape_of-own-requires-in-None
shape_of-own-requires-in-None c = net_is_whole (names_of c.args.scope.now) c.args.expr.now c.net_wrong_in.result c.net_wrong_in.ensures c.in-None.is

pub zero_in-requires-clause-whole : goal.zero_in-requires-clause-whole
zero_in-requires-clause-whole c = net_is_whole (names_of c.args.scope.now) c.args.expr.now c.net_wrong_in.result c.net_wrong_in.ensures c.in-None.is

pub returns-in-Some : goal.returns-in-Some
returns-in-Some c =
    let x = sense (names_of c.args.scope.now) c.args.expr.now in
    kept (net_wrong (names_of c.args.scope.now) c.args.expr.now) (divisions (x.zeros (assigned x c.args.width))) c.net_wrong_in.result c.in-Some.fault c.net_wrong_in.ensures c.in-Some.is

pub returns-in-None : goal.returns-in-None
returns-in-None c =
    let x = sense (names_of c.args.scope.now) c.args.expr.now in
    passed (net_wrong (names_of c.args.scope.now) c.args.expr.now) (divisions (x.zeros (assigned x c.args.width))) c.net_wrong_in.result c.zero_in.result c.net_wrong_in.ensures c.in-None.is (c.zero_in.ensures ∙ ap (λ (s : Shape). least (divisions (x.zeros s))) (assigned_is c.shape_of-own.result x.shape c.max.result c.args.width c.max.ensures c.shape_of-own.ensures.shape))
