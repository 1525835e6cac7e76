use Rattle.lrat_checker.proofs.Common.{ℤ, [], drop, get_or, sym, subst, rules, FitsSigned, Contains, w32, to_z-of_z}
use Rattle.lrat_checker.proofs.Guarding.{lemma-holds}
use Rattle.lrat_checker.proofs.guards.Guards.move_out.Goals as goal

pub returns-in-Some-clause-guarded : goal.returns-in-Some-clause-guarded
returns-in-Some-clause-guarded c =
    let fits : FitsSigned w32 c.in-Some.l = search rules in
    let P : ℤ → Type 0 = Contains (get_or (drop c.args.clauses c.args.store.now) c.args.number []) in
    let own = lemma-holds c.args.store.now c.args.clauses c.args.number c.clause.result.now c.in-Some.l c.clause.ensures c.in-Some.ensures in
    c.move_to.ensures.guarded (drop c.args.clauses c.args.store.now) (subst P (sym (to_z-of_z w32 c.in-Some.l fits)) own) c.requires.guarded
