use Rattle.lrat_checker.proofs.Common.{pos, get_or, ◌∙◌, rules, to_z-of_z, FitsSigned, w32, known_of}
use Rattle.lrat_checker.proofs.Placing.{bad-literal, place-more}
use Rattle.lrat_checker.proofs.judge.place_lemma.Goals as goal

pub returns-then-not-may_follow-clause-err : goal.returns-then-not-may_follow-clause-err
returns-then-not-may_follow-clause-err c =
    let fits : FitsSigned w32 (get_or c.args.lemma.now c.loop-i.i (pos 0)) = search rules in
    bad-literal c.args.free c.args.lemma.now c.loop-i.i (known_of c.loop-i.trail) _ (to_z-of_z w32 _ fits) c.loop-i-test.true c.loop-i.invariant.0 c.loop-i.invariant.1 c.if-not-may_follow.ensures.no

pub loop-i-preserved : goal.loop-i-preserved
loop-i-preserved c =
    let fits : FitsSigned w32 (get_or c.args.lemma.now c.loop-i.i (pos 0)) = search rules in
    let step = place-more c.args.free c.args.lemma.now c.loop-i.i (known_of c.loop-i.trail) _ (to_z-of_z w32 _ fits) c.loop-i-test.true c.loop-i.invariant.0 c.loop-i.invariant.1 c.if-not-may_follow.ensures.yes in
    (step.0, c.in_ok-falsify.ensures.ok ∙ step.1, c.falsify.ensures.len ∙ c.loop-i.invariant.2)
