use Rattle.tb_checks.proofs.Common.{List, ◌∙◌, ◌++◌, sym, ap, Fault, Shape, least, Names, names_of, sense, assigned, left_nil, right_nil, least_none, kept, passed, divisions, net_wrong}
use Rattle.tb_checks.proofs.Common.{indices_faults}
use Rattle.vlog_refusals.proofs.SideLemmas.{context_is}
use Rattle.tb_checks.proofs.Whole.{net_whole}
use Rattle.tb_checks.proofs.nets.net_fault.Goals as goal

pub shape_of-to-requires-in-None : goal.shape_of-to-requires-in-None
shape_of-to-requires-in-None c =
    let names : Names = names_of c.args.scope.now in
    let written : List Fault = (sense names c.args.form.now).faults ++ indices_faults names c.args.left.now in
    let is = c.earlier.ensures.joined written (net_wrong names c.args.right.now) (c.earlier-written.ensures.joined (sense names c.args.form.now).faults (indices_faults names c.args.left.now) c.fault_in.ensures c.indices_fault.ensures) c.net_wrong_in.ensures in
    left_nil (sense names c.args.form.now).faults (indices_faults names c.args.left.now) (left_nil written (net_wrong names c.args.right.now) (least_none _ (sym is ∙ c.in-None.is)))

pub shape_of-own-requires-in-None : goal.shape_of-own-requires-in-None
shape_of-own-requires-in-None c =
    let names : Names = names_of c.args.scope.now in
    let written : List Fault = (sense names c.args.form.now).faults ++ indices_faults names c.args.left.now in
    let is = c.earlier.ensures.joined written (net_wrong names c.args.right.now) (c.earlier-written.ensures.joined (sense names c.args.form.now).faults (indices_faults names c.args.left.now) c.fault_in.ensures c.indices_fault.ensures) c.net_wrong_in.ensures in
    net_whole names c.args.right.now (right_nil written (net_wrong names c.args.right.now) (least_none _ (sym is ∙ c.in-None.is)))

pub zero_in-requires-clause-whole : goal.zero_in-requires-clause-whole
zero_in-requires-clause-whole c =
    let names : Names = names_of c.args.scope.now in
    let written : List Fault = (sense names c.args.form.now).faults ++ indices_faults names c.args.left.now in
    let is = c.earlier.ensures.joined written (net_wrong names c.args.right.now) (c.earlier-written.ensures.joined (sense names c.args.form.now).faults (indices_faults names c.args.left.now) c.fault_in.ensures c.indices_fault.ensures) c.net_wrong_in.ensures in
    net_whole names c.args.right.now (right_nil written (net_wrong names c.args.right.now) (least_none _ (sym is ∙ c.in-None.is)))

pub returns-in-Some : goal.returns-in-Some
returns-in-Some c =
    let names : Names = names_of c.args.scope.now in
    let x = sense names c.args.form.now in
    let y = sense names c.args.right.now in
    let written : List Fault = x.faults ++ indices_faults names c.args.left.now in
    let is = c.earlier.ensures.joined written (net_wrong names c.args.right.now) (c.earlier-written.ensures.joined x.faults (indices_faults names c.args.left.now) c.fault_in.ensures c.indices_fault.ensures) c.net_wrong_in.ensures in
    kept (written ++ net_wrong names c.args.right.now) (divisions (y.zeros (assigned y x.shape.width))) c.earlier.result c.in-Some.fault is c.in-Some.is

pub returns-in-None : goal.returns-in-None
returns-in-None c =
    let names : Names = names_of c.args.scope.now in
    let x = sense names c.args.form.now in
    let y = sense names c.args.right.now in
    let written : List Fault = x.faults ++ indices_faults names c.args.left.now in
    let is = c.earlier.ensures.joined written (net_wrong names c.args.right.now) (c.earlier-written.ensures.joined x.faults (indices_faults names c.args.left.now) c.fault_in.ensures c.indices_fault.ensures) c.net_wrong_in.ensures in
    passed (written ++ net_wrong names c.args.right.now) (divisions (y.zeros (assigned y x.shape.width))) c.earlier.result c.zero_in.result is c.in-None.is (c.zero_in.ensures ∙ ap (λ (s : Shape). least (divisions (y.zeros s))) (context_is c.shape_of-own.result c.shape_of-to.result y.shape x.shape c.max.result c.max.ensures c.shape_of-own.ensures.shape c.shape_of-to.ensures.shape))
