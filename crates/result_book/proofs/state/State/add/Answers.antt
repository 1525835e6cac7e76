use Rattle.result_book.proofs.Common.{◌≡◌, ◌<◌, ◌++◌, ◌∷◌, [], List, Option, Some, ℕ, length, set, slice_get, if◌then◌else◌, sym, ◌∙◌, ap, arith, Bool, same_Some, slice_get_read, answers_of}
use Rattle.result_book.proofs.Common.{bounds_on, ask_by, words_of, Progress}
use Rattle.std.specs.Vec.{vec_len}
use Rattle.result_book.proofs.Following.{word_inside}
use Rattle.result_book.proofs.StateLemmas.{bounds-at, length-asks, length-bounds, length-results, length-rows, results-at, state_more, words_next}
use Rattle.result_book.proofs.state.State.add.Goals as goal

pub index-requires : goal.index-requires
index-requires c = omega (arith, ap (λ (s : Progress). length s.results) c.self.view_is, length-results c.args.campaign.now c.args.self.now.rows c.args.self.now c.requires.state, c.requires.row.mutation)

pub set_word-results-requires-clause-test : goal.set_word-results-requires-clause-test
set_word-results-requires-clause-test c = omega (arith, c.requires.row.test, c.requires.fit.few_tests)

pub set_word-results-requires-clause-word : goal.set_word-results-requires-clause-word
set_word-results-requires-clause-word c = (word_inside c.args.campaign.now c.args.entry.now.test c.args.entry.now.word c.requires.row.word).1

pub index-requires-2 : goal.index-requires-2
index-requires-2 c = omega (arith, ap (λ (s : Progress). length s.bounds) c.self.view_is, length-bounds c.args.campaign.now c.args.self.now.rows c.args.self.now c.requires.state, c.requires.row.mutation)

pub set-bounds-requires : goal.set-bounds-requires
set-bounds-requires c = omega (arith, c.requires.row.test, c.requires.fit.few_tests)

pub index_mut-requires : goal.index_mut-requires
index_mut-requires c = omega (arith, ap (λ (s : Progress). length s.results) c.self.view_is, length-results c.args.campaign.now c.args.self.now.rows c.args.self.now c.requires.state, c.requires.row.mutation)

pub index_mut-requires-2 : goal.index_mut-requires-2
index_mut-requires-2 c = omega (arith, ap (λ (s : Progress). length s.bounds) c.self.view_is, length-bounds c.args.campaign.now c.args.self.now.rows c.args.self.now c.requires.state, c.requires.row.mutation)

pub index_mut-requires-3 : goal.index_mut-requires-3
index_mut-requires-3 c = omega (arith, ap (λ (s : Progress). length s.asks) c.self.view_is, length-asks c.args.campaign.now c.args.self.now.rows c.args.self.now c.requires.state, c.requires.row.mutation)

pub invariant_of-self : goal.invariant_of-self
invariant_of-self c = record {
  room = omega (arith, c.self.invariant.room, c.push.ensures.upper_bound, c.push.ensures.capacity, c.requires.room, ap (λ (s : Progress). s.spare) c.self.view_is);
  few_rows = omega (arith, length-rows c.args.campaign.now c.args.self.now.rows c.args.self.now c.requires.fit c.requires.state, c.push.ensures.upper_bound, ap (λ (s : Progress). length s.rows) c.self.view_is);
  few_mutations = c.self.invariant.few_mutations;
}

pub returns-clause-state : goal.returns-clause-state
returns-clause-state c =
    let e = c.args.entry.now in
    let s = c.args.self.now in
    let campaign = c.args.campaign.now in
    let few : e.test < 16 = omega (arith, c.requires.row.test, c.requires.fit.few_tests) in
    let inside : e.mutation < vec_len c.self.inside.results = omega (arith, ap (λ (p : Progress). length p.results) c.self.view_is, length-results campaign s.rows s c.requires.state, c.requires.row.mutation) in
    let inside' : e.mutation < vec_len c.self.inside.bounds = omega (arith, ap (λ (p : Progress). length p.bounds) c.self.view_is, length-bounds campaign s.rows s c.requires.state, c.requires.row.mutation) in
    let was : slice_get c.self.inside.results.items e.mutation ≡ Some c.index.result.now = slice_get_read c.self.inside.results.items (vec_len c.self.inside.results) e.mutation c.index.result.now (omega arith) inside c.index.ensures in
    let was' : slice_get c.self.inside.bounds.items e.mutation ≡ Some c.index-2.result.now = slice_get_read c.self.inside.bounds.items (vec_len c.self.inside.bounds) e.mutation c.index-2.result.now (omega arith) inside' c.index-2.ensures in
    let known : c.index.result.now ≡ words_of (answers_of e.mutation s.rows) = same_Some _ _ (sym was ∙ ap (λ (p : Progress). slice_get p.results e.mutation) c.self.view_is ∙ results-at campaign s.rows s e.mutation c.requires.state c.requires.row.mutation) in
    let known' : c.index-2.result.now ≡ bounds_on e.mutation s.rows = same_Some _ _ (sym was' ∙ ap (λ (p : Progress). slice_get p.bounds e.mutation) c.self.view_is ∙ bounds-at campaign s.rows s e.mutation c.requires.state c.requires.row.mutation) in
    let words : c.set_word-results.result ≡ words_of (answers_of e.mutation (s.rows ++ e ∷ [])) = c.set_word-results.ensures ∙ ap (λ (l : List (Option ℕ)). set l e.test (Some e.word)) known ∙ words_next s.rows e few in
    let bounds : c.set-bounds.result ≡ set (bounds_on e.mutation s.rows) e.test e.bound = c.set-bounds.ensures ∙ ap (λ (l : List ℕ). set l e.test e.bound) known' in
    let stands = c.ask_by.ensures ∙ ap (ask_by campaign) words in
    let rows : c.push.new.self.items ≡ s.rows ++ e ∷ [] = c.push.ensures.items ∙ ap (λ (b : Bool). if b then c.self.inside.rows.items ++ e ∷ [] else c.self.inside.rows.items) (sym c.if-prove.ensures.value) ∙ ap (λ (p : Progress). p.rows ++ e ∷ []) c.self.view_is in
    state_more campaign s.rows s _ e c.set_word-results.result c.ask_by.result c.requires.fit c.requires.state c.requires.row words stands rows
    (ap (λ (p : Progress). set p.results e.mutation c.set_word-results.result) c.self.view_is)
    (ap (λ (p : Progress). set p.bounds e.mutation c.set-bounds.result) c.self.view_is ∙ ap (set s.bounds e.mutation) bounds)
    (ap (λ (p : Progress). set p.asks e.mutation c.ask_by.result) c.self.view_is)
