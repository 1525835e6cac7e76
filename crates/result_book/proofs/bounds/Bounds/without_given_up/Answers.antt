use Rattle.result_book.proofs.Common.{List, Option, ℕ, ap, ◌∙◌, arith, slice_index, word_at, without_one}
use Rattle.result_book.proofs.Keeping.{first_all, first_more}
use Rattle.result_book.proofs.bounds.Bounds.without_given_up.Goals as goal

pub loop-test-preserved : goal.loop-test-preserved
loop-test-preserved c =
    c.without_one-kept.ensures
    ∙ ap (λ (l : List (Option ℕ)). without_one c.args.limit (slice_index c.args.self c.loop-test.test) c.loop-test.test l (word_at l c.loop-test.test)) c.loop-test.invariant
    ∙ first_more c.loop-test.test c.args.limit c.args.words c.args.self (omega (arith, c.requires.bounds, c.loop-test-test.true))

pub returns : goal.returns
returns c = c.loop-test.invariant ∙ first_all c.loop-test.test c.args.limit c.args.words c.args.self (omega (arith, c.requires.words, c.loop-test-test.false))
