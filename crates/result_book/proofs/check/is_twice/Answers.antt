use Rattle.result_book.proofs.Common.{◌≡◌, Some, inl, sym, ◌∙◌, arith, answers_of, word_in}
use Rattle.result_book.proofs.FaultLemmas.{new_by_word, word_known}
use Rattle.result_book.proofs.Standing.{bound_before, once_told, twice_told, twice_word}
use Rattle.result_book.proofs.StateLemmas.{length-bounds, length-results}
use Rattle.result_book.proofs.check.is_twice.Goals as goal

pub results-requires : goal.results-requires
results-requires c = omega (arith, length-results c.args.campaign.now c.args.state.now.rows c.args.state.now c.requires.state, c.requires.placed.mutation)

pub bound-requires-clause-mutation : goal.bound-requires-clause-mutation
bound-requires-clause-mutation c = omega (arith, length-bounds c.args.campaign.now c.args.state.now.rows c.args.state.now c.requires.state, c.requires.placed.mutation)

pub returns-in-None-clause-once : goal.returns-in-None-clause-once
returns-in-None-clause-once c told =
    inl (new_by_word c.args.campaign.now c.args.state.now.rows c.args.state.now c.args.row.now c.results.result c.requires.fit c.requires.state c.requires.placed c.results.ensures (sym c.word.ensures ∙ c.in-None.is))

pub returns-in-Some-clause-twice : goal.returns-in-Some-clause-twice
returns-in-Some-clause-twice c told =
    let e = c.args.row.now in
    let rows = c.args.state.now.rows in
    let some : word_in (answers_of e.mutation rows) e.test ≡ Some c.in-Some.field-0 = sym (word_known c.args.campaign.now rows c.args.state.now e c.results.result c.requires.fit c.requires.state c.requires.placed c.results.ensures) ∙ sym c.word.ensures ∙ c.in-Some.is in
    twice_word c.args.first rows e c.in-Some.field-0 some (inl c.if-first.true)

pub returns-in-Some-2-clause-twice : goal.returns-in-Some-2-clause-twice
returns-in-Some-2-clause-twice c told =
    let e = c.args.row.now in
    let s = c.args.state.now in
    let campaign = c.args.campaign.now in
    let word = c.in-Some.field-0 in
    let some : word_in (answers_of e.mutation s.rows) e.test ≡ Some word = sym (word_known campaign s.rows s e c.results.result c.requires.fit c.requires.state c.requires.placed c.results.ensures) ∙ sym c.word.ensures ∙ c.in-Some.is in
    let before = bound_before campaign s.rows s e word c.bound.result c.requires.fit c.requires.state c.requires.placed some c.bound.ensures in
    twice_told c.args.first s.rows e word c.bound.result c.is_given_up.result some before c.is_given_up.ensures told

pub returns-in-Some-2-clause-once : goal.returns-in-Some-2-clause-once
returns-in-Some-2-clause-once c told =
    let e = c.args.row.now in
    let s = c.args.state.now in
    let campaign = c.args.campaign.now in
    let word = c.in-Some.field-0 in
    let some : word_in (answers_of e.mutation s.rows) e.test ≡ Some word = sym (word_known campaign s.rows s e c.results.result c.requires.fit c.requires.state c.requires.placed c.results.ensures) ∙ sym c.word.ensures ∙ c.in-Some.is in
    let before = bound_before campaign s.rows s e word c.bound.result c.requires.fit c.requires.state c.requires.placed some c.bound.ensures in
    once_told c.args.first s.rows e word c.bound.result c.is_given_up.result c.if-first.false some before c.is_given_up.ensures told
