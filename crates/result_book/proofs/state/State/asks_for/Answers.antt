use Rattle.result_book.proofs.Common.{◌≡◌, List, Option, None, ℕ, set, sym, ◌∙◌, ap, arith, same_Some, answers_of, ask_by, words_of}
use Rattle.result_book.proofs.Reading.{asked_without}
use Rattle.result_book.proofs.StateLemmas.{length-results, results-at}
use Rattle.result_book.proofs.state.State.asks_for.Goals as goal

pub results-requires : goal.results-requires
results-requires c = omega (arith, length-results c.args.campaign.now c.args.self.now.rows c.args.self.now c.requires.state, c.requires.mutation)

pub without_word-requires : goal.without_word-requires
without_word-requires c = omega (arith, c.requires.test, c.requires.fit.few_tests)

pub returns : goal.returns
returns c =
    let campaign = c.args.campaign.now in
    let rows = c.args.self.now.rows in
    let answers = answers_of c.args.mutation rows in
    let known : c.results.result ≡ words_of answers = same_Some _ _ (sym c.results.ensures ∙ results-at campaign rows c.args.self.now c.args.mutation c.requires.state c.requires.mutation) in
    let stands : c.ask_by.result ≡ ask_by campaign (set (words_of answers) c.args.test None) = c.ask_by.ensures ∙ ap (ask_by campaign) (c.without_word.ensures ∙ ap (λ (l : List (Option ℕ)). set l c.args.test None) known) in
    let tells = asked_without campaign answers c.args.test in
    (λ is. tells.0 (sym stands ∙ c.needs.ensures.0 is), λ asked. c.needs.ensures.1 (stands ∙ tells.1 asked))
