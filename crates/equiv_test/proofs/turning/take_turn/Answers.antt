use Rattle.equiv_test.proofs.Common.{◌∙◌, Plan, Hunt, listed_values}
use Rattle.equiv_test.proofs.Telling.{is-found, tells-change, model-differs, clauses-are, tells-no-change, tells-unknown}
use Rattle.equiv_test.proofs.turning.take_turn.Goals as goal

pub unwrap-requires : goal.unwrap-requires
unwrap-requires c =
    let a : Plan = c.args.original.now.plan in
    let b : Plan = c.args.mutant.now.plan in
    let after : Hunt = c.turn.new.self in
    let clauses = clauses-are a b c.args.limit c.args.conflicts c.args.search after c.requires.pair c.turn.ensures.continued in
    let differ = model-differs a b after.log.clauses (listed_values c.in-Ok-Some-Model.assignment) c.requires.tell clauses (rw (c.in-Ok-Some-Model.field-0-is, c.in-Ok-Some-Model.field-0-0-is) at c.in-Ok-Some-Model.ensures.found).0 in
    is-found a.raw b.raw _ _ c.in-Ok.found differ c.in-Ok.ensures.found

pub returns-in-Ok-None-clause-turns : goal.returns-in-Ok-None-clause-turns
returns-in-Ok-None-clause-turns c = (let none = rw c.in-Ok-None.field-0-is at c.in-Ok-None.ensures.none in ((none.1, c.turn.ensures.continued), none.0))

pub returns-in-Ok-clause-turns : goal.returns-in-Ok-clause-turns
returns-in-Ok-clause-turns c = tells-change c.args.original.now.plan c.args.mutant.now.plan c.args.limit _ _ c.in-Ok.found c.unwrap.result c.unwrap.ensures c.in-Ok.ensures.found

pub returns-in-Err-difference_at-clause-turns : goal.returns-in-Err-difference_at-clause-turns
returns-in-Err-difference_at-clause-turns c = ((rw (c.in-Ok-Some-Model.field-0-is, c.in-Ok-Some-Model.field-0-0-is) at c.in-Ok-Some-Model.ensures.found).1, c.turn.ensures.continued)

pub returns-in-Ok-Some-Refuted-clause-turns : goal.returns-in-Ok-Some-Refuted-clause-turns
returns-in-Ok-Some-Refuted-clause-turns c =
    tells-no-change c.args.original.now.plan c.args.mutant.now.plan c.args.limit c.args.conflicts c.args.search c.turn.new.self c.requires.pair c.turn.ensures.continued
    c.refutation.result c.refutation.ensures.log c.refutation.ensures.refutation c.refutation.ensures.unsatisfiable c.requires.tell

pub refutation-requires : goal.refutation-requires
refutation-requires c = rw (c.in-Ok-Some-Refuted.field-0-is, c.in-Ok-Some-Refuted.field-0-0-is) at c.in-Ok-Some-Refuted.ensures.found

pub attempt-requires-clause-count : goal.attempt-requires-clause-count
attempt-requires-clause-count c = (rw (c.in-Ok-Some-Spent.field-0-is, c.in-Ok-Some-Spent.field-0-0-is) at c.in-Ok-Some-Spent.ensures.found).0 ∙ c.turn.ensures.continued.limit ∙ c.requires.pair.limit

pub attempt-requires-clause-none_empty : goal.attempt-requires-clause-none_empty
attempt-requires-clause-none_empty c = (rw (c.in-Ok-Some-Spent.field-0-is, c.in-Ok-Some-Spent.field-0-0-is) at c.in-Ok-Some-Spent.ensures.found).1

pub returns-in-Ok-Some-Spent-clause-turns : goal.returns-in-Ok-Some-Spent-clause-turns
returns-in-Ok-Some-Spent-clause-turns c =
    tells-unknown c.args.original.now.plan c.args.mutant.now.plan c.args.limit c.args.conflicts c.args.search c.turn.new.self c.requires.pair c.turn.ensures.continued
    c.attempt.result c.attempt.ensures.log c.attempt.ensures.attempt c.attempt.ensures.short

pub returns-in-Err-clause-turns : goal.returns-in-Err-clause-turns
returns-in-Err-clause-turns c = (c.in-Err.ensures.err, c.turn.ensures.continued)
