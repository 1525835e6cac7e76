use Rattle.tb_checks.proofs.Common.{map, ◌++◌, flat_map, Expr, names_of, parts_of, Wrong, part_faults, net_faults}
use Rattle.std.proofs.Common.{None}
use Rattle.tb_checks.proofs.Firsts.{moved}
use Rattle.tb_checks.proofs.nets.assign_fault.Goals as goal

pub returns : goal.returns
returns c = moved (λ (x : Expr). map Wrong (net_faults (names_of c.args.scope.now) x c.args.left.now c.args.value.now) ++ flat_map (part_faults (names_of c.args.scope.now) None) (parts_of c.args.left.now)) _ _ _ c.in_ok-form.ensures (c.earlier.ensures.joined _ _ (c.wrong-sides.ensures.first _ c.net_fault.ensures) c.names_fault-names.ensures)
