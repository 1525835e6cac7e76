use Rattle.lrat_checker.proofs.Common.{drop, refl, lists_of, known_of}
use Rattle.lrat_checker.proofs.Guarding.{none-falsified}
use Rattle.lrat_checker.proofs.judge.find_contained.Goals as goal

pub returns-then-are_clear-clause-none : goal.returns-then-are_clear-clause-none
returns-then-are_clear-clause-none c =
    let clear = c.if-are_clear.ensures refl in
    none-falsified (drop c.args.clauses c.args.store.now) (lists_of c.args.guards.now) c.args.lemma.now (known_of c.args.trail.now) c.requires.placed (c.requires.guarded clear.0) clear.1
