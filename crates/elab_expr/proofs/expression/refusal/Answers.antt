use Rattle.elab_expr.proofs.Common.{◌∙◌, ◌++◌, sym, map, DivideByZero, names_of, sense, fault, left_nil, least_none, kept, passed, plan}
use Rattle.elab_expr.proofs.expression.refusal.Goals as goal

pub zero_in-requires-clause-whole : goal.zero_in-requires-clause-whole
zero_in-requires-clause-whole c =
    let names = names_of c.args.scope.now in
    let is = c.earlier-found.ensures.joined (sense names c.args.expr.now).faults (plan names c.args.expr.now).unsupported c.fault_in.ensures c.unsupported_in.ensures in
    left_nil _ _ (least_none _ (sym is ∙ c.in-None.is))

pub zero_in-requires-clause-context : goal.zero_in-requires-clause-context
zero_in-requires-clause-context c =
    let names = names_of c.args.scope.now in
    let is = c.earlier-found.ensures.joined (sense names c.args.expr.now).faults (plan names c.args.expr.now).unsupported c.fault_in.ensures c.unsupported_in.ensures in
    c.requires (left_nil _ _ (least_none _ (sym is ∙ c.in-None.is)))

pub returns-in-Some : goal.returns-in-Some
returns-in-Some c =
    let names = names_of c.args.scope.now in
    let is = c.earlier-found.ensures.joined (sense names c.args.expr.now).faults (plan names c.args.expr.now).unsupported c.fault_in.ensures c.unsupported_in.ensures in
    kept ((sense names c.args.expr.now).faults ++ (plan names c.args.expr.now).unsupported) (map (fault DivideByZero) ((sense names c.args.expr.now).zeros c.args.context)) c.earlier-found.result c.in-Some.fault is c.in-Some.is

pub returns-in-None : goal.returns-in-None
returns-in-None c =
    let names = names_of c.args.scope.now in
    let is = c.earlier-found.ensures.joined (sense names c.args.expr.now).faults (plan names c.args.expr.now).unsupported c.fault_in.ensures c.unsupported_in.ensures in
    passed ((sense names c.args.expr.now).faults ++ (plan names c.args.expr.now).unsupported) (map (fault DivideByZero) ((sense names c.args.expr.now).zeros c.args.context)) c.earlier-found.result c.zero_in.result is c.in-None.is c.zero_in.ensures
