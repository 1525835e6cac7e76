use Rattle.result_book.proofs.Common.{◌≡◌, inl, inr, true, List, Option, ℕ, sym, ◌∙◌, ap, arith, same_Some, Ask, word_at, next_bound, answers_of, bounds_on, ask_by, is_ended, words_of, kept_words}
use Rattle.result_book.proofs.StateLemmas.{bounds-at, length-bounds, length-results, results-at}
use Rattle.result_book.proofs.Wanting.{wanted_none, wanted_some}
use Rattle.result_book.proofs.state.State.want.Goals as goal

pub has-requires-clause-few : goal.has-requires-clause-few
has-requires-clause-few c = omega (arith, c.requires.mutation, c.requires.fit.few_mutations)

pub results-last-requires : goal.results-last-requires
results-last-requires c = omega (arith, length-results c.args.campaign.now c.args.self.now.rows c.args.self.now c.requires.state, c.requires.mutation)

pub bounds-requires : goal.bounds-requires
bounds-requires c = omega (arith, length-bounds c.args.campaign.now c.args.self.now.rows c.args.self.now c.requires.state, c.requires.mutation)

pub returns-in-Need : goal.returns-in-Need
returns-in-Need c =
    let campaign = c.args.campaign.now in
    let s = c.args.self.now in
    let m = c.args.mutation in
    let retry = c.args.goal.now.retry in
    let t = c.in-Need.test in
    let known : c.results-last.result ≡ words_of (answers_of m s.rows) = same_Some _ _ (sym c.results-last.ensures ∙ results-at campaign s.rows s m c.requires.state c.requires.mutation) in
    let bounds : c.bounds.result ≡ bounds_on m s.rows = same_Some _ _ (sym c.bounds.ensures ∙ bounds-at campaign s.rows s m c.requires.state c.requires.mutation) in
    let kept : c.without_given_up-kept.result ≡ kept_words retry (words_of (answers_of m s.rows)) (bounds_on m s.rows) =
    c.without_given_up-kept.ensures ∙ ap (λ (l : List (Option ℕ)). kept_words retry l c.bounds.result) known ∙ ap (kept_words retry (words_of (answers_of m s.rows))) bounds in
    wanted_some campaign s.rows m c.args.goal.now c.without_given_up-kept.result t c.next_bound.result (sym c.if-not-has.ensures) kept (sym c.ask_by.ensures ∙ c.in-Need.is)
    (c.next_bound.ensures ∙ ap (next_bound campaign retry t) (c.any_word.ensures ∙ ap (λ (l : List (Option ℕ)). word_at l t) known))

pub returns-in-Done : goal.returns-in-Done
returns-in-Done c =
    let campaign = c.args.campaign.now in
    let s = c.args.self.now in
    let m = c.args.mutation in
    let retry = c.args.goal.now.retry in
    let known : c.results-last.result ≡ words_of (answers_of m s.rows) = same_Some _ _ (sym c.results-last.ensures ∙ results-at campaign s.rows s m c.requires.state c.requires.mutation) in
    let bounds : c.bounds.result ≡ bounds_on m s.rows = same_Some _ _ (sym c.bounds.ensures ∙ bounds-at campaign s.rows s m c.requires.state c.requires.mutation) in
    let kept : c.without_given_up-kept.result ≡ kept_words retry (words_of (answers_of m s.rows)) (bounds_on m s.rows) =
    c.without_given_up-kept.ensures ∙ ap (λ (l : List (Option ℕ)). kept_words retry l c.bounds.result) known ∙ ap (kept_words retry (words_of (answers_of m s.rows))) bounds in
    let stands : is_ended c.ask_by.result ≡ true = elim c.in-Done.is [
      | inl done ↦ ap (λ (a : Ask). is_ended a) done.1
      | inr rest ↦ elim rest [ inl failed ↦ ap (λ (a : Ask). is_ended a) failed.1 | inr unexpected ↦ ap (λ (a : Ask). is_ended a) unexpected.1 ]
    ] in
    let ended : is_ended (ask_by campaign c.without_given_up-kept.result) ≡ true = sym (ap (λ (a : Ask). is_ended a) c.ask_by.ensures) ∙ stands in
    wanted_none campaign s.rows m c.args.goal.now c.without_given_up-kept.result (sym c.if-not-has.ensures) kept ended
