use Rattle.result_book.proofs.Common.{◌≡◌, List, Option, Some, ℕ, set, sym, ◌∙◌, ap, arith, same_Some, answers_of, ask_by, words_of}
use Rattle.result_book.proofs.StateLemmas.{length-results, results-at}
use Rattle.result_book.proofs.state.State.ask_with.Goals as goal

pub results-requires : goal.results-requires
results-requires c = omega (arith, length-results c.args.campaign.now c.args.self.now.rows c.args.self.now c.requires.state, c.requires.mutation)

pub set_word-requires-clause-test : goal.set_word-requires-clause-test
set_word-requires-clause-test c = omega (arith, c.requires.test, c.requires.fit.few_tests)

pub returns : goal.returns
returns c =
    let rows = c.args.self.now.rows in
    let known : c.results.result ≡ words_of (answers_of c.args.mutation rows) = same_Some _ _ (sym c.results.ensures ∙ results-at c.args.campaign.now rows c.args.self.now c.args.mutation c.requires.state c.requires.mutation) in
    c.ask_by.ensures ∙ ap (ask_by c.args.campaign.now) (c.set_word.ensures ∙ ap (λ (l : List (Option ℕ)). set l c.args.test (Some c.args.word)) known)
