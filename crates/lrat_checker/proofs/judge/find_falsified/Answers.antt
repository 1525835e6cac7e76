use Rattle.lrat_checker.proofs.Common.{◌≡◌, ◌-◌, ◌+◌, take, drop, arith, rules, slice_get, Some, true, false, take_all, length-drop, known_of}
use Rattle.lrat_checker.proofs.Finding.{unfalsified-more, first-falsified}
use Rattle.lrat_checker.proofs.judge.find_falsified.Goals as goal

pub returns-then-all_false-clause-found : goal.returns-then-all_false-clause-found
returns-then-all_false-clause-found c =
    let next : c.loop-id.id + 1 - 1 ≡ c.loop-id.id = omega arith in
    let at : slice_get c.args.store.now c.loop-id.id ≡ Some c.clause.result.now = rw next at c.clause.ensures in
    first-falsified (known_of c.args.trail.now) c.args.store.now c.args.clauses c.loop-id.id c.clause.result.now (omega arith) at c.loop-id.invariant (search rules)

pub loop-id-preserved : goal.loop-id-preserved
loop-id-preserved c =
    let next : c.loop-id.id + 1 - 1 ≡ c.loop-id.id = omega arith in
    let at : slice_get c.args.store.now c.loop-id.id ≡ Some c.clause.result.now = rw next at c.clause.ensures in
    unfalsified-more (known_of c.args.trail.now) c.args.store.now c.args.clauses c.loop-id.id c.clause.result.now (omega arith) at c.loop-id.invariant (λ all. let wrong : false ≡ true = c.if-all_false.ensures.1 all in cc)

pub returns-clause-none : goal.returns-clause-none
returns-clause-none c =
    let whole : take (c.loop-id.id - c.args.clauses) (drop c.args.clauses c.args.store.now) ≡ drop c.args.clauses c.args.store.now = take_all (c.loop-id.id - c.args.clauses) (drop c.args.clauses c.args.store.now) (simp length-drop (omega arith)) in
    rw whole at c.loop-id.invariant
