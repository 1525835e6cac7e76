use Rattle.tb_checks.proofs.Common.{List, map, ◌++◌, flat_map, Expr, parts_of, BenchFault, Wrong, sides_faults, part_faults, rules_in}
use Rattle.tb_checks.proofs.Firsts.{moved}
use Rattle.tb_checks.proofs.statements.assignment_fault.Goals as goal

pub returns : goal.returns
returns c =
    let r = rules_in c.args.rules.now in
    let names : List BenchFault = flat_map (part_faults r.names r.clock) (parts_of c.args.assignment.now.left) in
    moved (λ (x : Expr). map Wrong (sides_faults r.names x c.args.assignment.now.value) ++ names) _ _ _ c.in_ok-left.ensures
    (moved (λ (x : Expr). map Wrong (sides_faults r.names c.in_ok-left.left x) ++ names) _ _ _ c.get.ensures (c.earlier.ensures.joined _ _ (c.wrong-sides.ensures.first _ c.sides_fault.ensures) c.names_fault-names.ensures))
