use Rattle.lrat_checker.proofs.Common.{◌≡◌, pos, get_or, take, sym, arith, rules, to_z-of_z, take_all, FitsSigned, w32, known_of}
use Rattle.lrat_checker.proofs.Finding.{false-more}
use Rattle.lrat_checker.proofs.judge.all_false.Goals as goal

pub loop-l-preserved : goal.loop-l-preserved
loop-l-preserved c =
    let fits : FitsSigned w32 (get_or c.args.clause.now c.loop-l.l-index (pos 0)) = search rules in
    false-more (known_of c.args.trail.now) c.args.clause.now c.loop-l.l-index _ (to_z-of_z w32 _ fits) c.loop-l-test.true c.loop-l.invariant (sym c.if-not-is_false.ensures)

pub returns : goal.returns
returns c =
    let whole : take c.loop-l.l-index c.args.clause.now ≡ c.args.clause.now = take_all c.loop-l.l-index c.args.clause.now (omega arith) in
    (λ _. rw whole at c.loop-l.invariant, λ _. search rules)
