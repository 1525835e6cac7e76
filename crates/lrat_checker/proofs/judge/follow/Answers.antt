use Rattle.lrat_checker.proofs.Common.{◌≡◌, ◌<◌, [], ◌∷◌, get_or, ◌∙◌, sym, arith, rules, length, ◌-◌, Some, to_z-of_z, FitsSigned, All, w32, variable, clause_at, with_true, known_of}
use Rattle.lrat_checker.proofs.Following.{clause-within, unit_variable, clause_at-place, propagates-more, reaches}
use Rattle.lrat_checker.proofs.judge.follow.Goals as goal

pub assign-requires : goal.assign-requires
assign-requires c =
    let fits : FitsSigned w32 c.in-Unit.l = search rules in
    let within : All (λ m. variable m < length c.loop-i.trail) c.clause.result.now = clause-within c.args.store.now (length c.loop-i.trail) (get_or c.args.hints.now c.loop-i.i 0 - 1) c.clause.result.now (rw (c.loop-i.invariant.1) c.requires.over) c.clause.ensures in
    rw (to_z-of_z w32 c.in-Unit.l fits) (unit_variable (known_of c.loop-i.trail) c.clause.result.now c.in-Unit.l (length c.loop-i.trail) within c.in-Unit.ensures)

pub loop-i-preserved : goal.loop-i-preserved
loop-i-preserved c =
    let fits : FitsSigned w32 c.in-Unit.l = search rules in
    let at : clause_at c.args.store.now (get_or c.args.hints.now c.loop-i.i 0) ≡ Some c.clause.result.now = clause_at-place c.args.store.now (get_or c.args.hints.now c.loop-i.i 0) (Some c.clause.result.now) c.if-hint-eq0.false c.clause.ensures in
    let moved : known_of c.assign.new.self ≡ with_true (known_of c.loop-i.trail) c.in-Unit.l = rw (to_z-of_z w32 c.in-Unit.l fits) at c.in_ok-assign-in-Unit.ensures.ok in
    (rw moved (propagates-more c.args.store.now (known_of c.args.trail.now) c.args.hints.now c.loop-i.i (known_of c.loop-i.trail) c.clause.result.now c.in-Unit.l c.loop-i-test.true c.loop-i.invariant.0 at c.in-Unit.ensures), c.assign.ensures.len ∙ c.loop-i.invariant.1)

pub returns-in-Falsified-clause-err : goal.returns-in-Falsified-clause-err
returns-in-Falsified-clause-err c = record {
  hint = get_or c.args.hints.now c.loop-i.i 0;
  known = known_of c.loop-i.trail;
  reaches = reaches c.args.store.now (known_of c.args.trail.now) c.args.hints.now c.loop-i.i (known_of c.loop-i.trail) c.loop-i-test.true c.loop-i.invariant.0;
  clause = c.clause.result.now;
  there = clause_at-place c.args.store.now (get_or c.args.hints.now c.loop-i.i 0) (Some c.clause.result.now) c.if-hint-eq0.false c.clause.ensures;
  not_unit = λ l unit. let no : [] ≡ l ∷ [] = sym c.in-Falsified.ensures ∙ unit.alone in cc;
  not_false = λ _. omega (arith, c.loop-i-test.true, c.if-i-hints.false);
}

pub returns-in-Other-clause-err : goal.returns-in-Other-clause-err
returns-in-Other-clause-err c = record {
  hint = get_or c.args.hints.now c.loop-i.i 0;
  known = known_of c.loop-i.trail;
  reaches = reaches c.args.store.now (known_of c.args.trail.now) c.args.hints.now c.loop-i.i (known_of c.loop-i.trail) c.loop-i-test.true c.loop-i.invariant.0;
  clause = c.clause.result.now;
  there = clause_at-place c.args.store.now (get_or c.args.hints.now c.loop-i.i 0) (Some c.clause.result.now) c.if-hint-eq0.false c.clause.ensures;
  not_unit = c.in-Other.ensures.1;
  not_false = λ falsified. absurd (c.in-Other.ensures.0 falsified);
}
