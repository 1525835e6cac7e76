use Rattle.tb_checks.proofs.Common.{rules_in}
use Rattle.tb_checks.proofs.Starts.{start_wrong, start_right, start_sized}
use Rattle.tb_checks.proofs.start.start_fault.Goals as goal

pub returns-in-Some : goal.returns-in-Some
returns-in-Some c = start_wrong (rules_in c.args.rules.now) c.args.assignment.now c.args.width c.in_ok-left.left _ c.sides_fault.result c.in-Some.fault c.in_ok-left.ensures c.get.ensures c.sides_fault.ensures c.in-Some.is

pub start_value-requires-clause-some : goal.start_value-requires-clause-some
start_value-requires-clause-some c = (start_sized (rules_in c.args.rules.now) c.args.assignment.now c.args.width c.in_ok-left.left _ c.sides_fault.result c.in_ok-left.ensures c.get.ensures c.sides_fault.ensures c.in-None.is c.requires).0

pub start_value-requires-clause-narrow : goal.start_value-requires-clause-narrow
start_value-requires-clause-narrow c = (start_sized (rules_in c.args.rules.now) c.args.assignment.now c.args.width c.in_ok-left.left _ c.sides_fault.result c.in_ok-left.ensures c.get.ensures c.sides_fault.ensures c.in-None.is c.requires).1

pub returns : goal.returns
returns c = start_right (rules_in c.args.rules.now) c.args.assignment.now c.args.width c.in_ok-left.left _ c.sides_fault.result c.first_token.result _ c.start_value.result c.in_ok-left.ensures c.get.ensures c.sides_fault.ensures c.in-None.is c.first_token.ensures c.get-in-None.ensures c.start_value.ensures
