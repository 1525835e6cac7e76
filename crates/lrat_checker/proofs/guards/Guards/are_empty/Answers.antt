use Rattle.lrat_checker.proofs.Common.{◌≡◌, ℤ, pos, [], get_or, take, refl, subst, arith, rules, FitsSigned, w32, to_z-of_z, take_all, All-more, place_of, list_at, lists_of}
use Rattle.lrat_checker.proofs.guards.Guards.are_empty.Goals as goal

pub loop-l-preserved : goal.loop-l-preserved
loop-l-preserved c =
    let fits : FitsSigned w32 (get_or c.args.lits.now c.loop-l.l-index (pos 0)) = search rules in
    let P : ℤ → Type 0 = λ k. list_at (lists_of c.args.self.now) (place_of k) ≡ [] in
    All-more P c.args.lits.now c.loop-l.l-index (pos 0) c.loop-l-test.true c.loop-l.invariant (subst P (to_z-of_z w32 (get_or c.args.lits.now c.loop-l.l-index (pos 0)) fits) (c.if-not-is_empty.ensures refl))

pub returns : goal.returns
returns c = λ _.
    let whole : take c.loop-l.l-index c.args.lits.now ≡ c.args.lits.now = take_all c.loop-l.l-index c.args.lits.now (omega arith) in
    rw whole at c.loop-l.invariant
