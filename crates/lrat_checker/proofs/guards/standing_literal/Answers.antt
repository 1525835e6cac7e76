use Rattle.lrat_checker.proofs.Common.{◌<◌, ◌-◌, ℤ, pos, length, get_or, sym, subst, arith, rules, FitsSigned, Contains, w32, to_z-of_z, Contains-get_or}
use Rattle.lrat_checker.proofs.guards.standing_literal.Goals as goal

pub returns-then-not-is_false : goal.returns-then-not-is_false
returns-then-not-is_false c =
    let fits : FitsSigned w32 (get_or c.args.clause.now (c.loop-left.left - 1) (pos 0)) = search rules in
    let within : c.loop-left.left - 1 < length c.args.clause.now = omega arith in
    let P : ℤ → Type 0 = Contains c.args.clause.now in
    subst P (sym (to_z-of_z w32 (get_or c.args.clause.now (c.loop-left.left - 1) (pos 0)) fits)) (Contains-get_or c.args.clause.now (c.loop-left.left - 1) (pos 0) within)
