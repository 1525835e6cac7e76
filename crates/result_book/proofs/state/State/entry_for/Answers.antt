use Rattle.result_book.proofs.Common.{◌≡◌, ◌++◌, ◌∷◌, [], ◌∙◌, ap, arith, Entry, mark_of, tags_of, ask_on}
use Rattle.result_book.proofs.FaultLemmas.{ask_after}
use Rattle.result_book.proofs.Following.{word_inside}
use Rattle.result_book.proofs.StateLemmas.{next_row}
use Rattle.result_book.proofs.state.State.entry_for.Goals as goal

pub ask_with-ask-requires-clause-test : goal.ask_with-ask-requires-clause-test
ask_with-ask-requires-clause-test c = (word_inside c.args.campaign.now c.args.test c.args.word c.requires.word).0

pub ask_with-ask-requires-clause-word : goal.ask_with-ask-requires-clause-word
ask_with-ask-requires-clause-word c = (word_inside c.args.campaign.now c.args.test c.args.word c.requires.word).1

pub returns-clause-row : goal.returns-clause-row
returns-clause-row c =
    let e : Entry = record { seq = c.len.result; mutation = c.args.mutation; test = c.args.test; word = c.args.word; mark = c.mark.result; tags = c.tags.result; bound = c.args.bound } in
    let campaign = c.args.campaign.now in
    let rows = c.args.self.now.rows in
    let inside = word_inside campaign c.args.test c.args.word c.requires.word in
    let stands : c.ask_with-ask.result ≡ ask_on campaign c.args.mutation (rows ++ e ∷ []) = c.ask_with-ask.ensures ∙ ask_after campaign rows e (omega (arith, inside.0, c.requires.fit.few_tests)) in
    next_row campaign rows e c.len.ensures c.requires.mutation inside.0 c.requires.follows c.requires.word (c.mark.ensures ∙ ap mark_of stands) (c.tags.ensures ∙ ap tags_of stands)
