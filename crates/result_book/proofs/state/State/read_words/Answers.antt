use Rattle.result_book.proofs.Common.{◌≡◌, ◌++◌, ◌∷◌, [], Some, None, sym, ◌∙◌, ap, arith, next_read, answers_of, read_answers, words_of}
use Rattle.result_book.proofs.Begun.{AreBegun, begun_all, begun_more, begun_none, next_fewer, next_inside, next_known, next_word, next_words}
use Rattle.result_book.proofs.StateLemmas.{length-results}
use Rattle.result_book.proofs.Words.{words_of-none}
use Rattle.result_book.proofs.state.State.read_words.Goals as goal

pub results-last-requires : goal.results-last-requires
results-last-requires c = omega (arith, length-results c.args.campaign.now c.args.self.now.rows c.args.self.now c.requires.state, c.requires.mutation)

pub loop-answer-init : goal.loop-answer-init
loop-answer-init c =
    let none : c.empty-seen.result ≡ words_of [] = c.empty-seen.ensures ∙ sym words_of-none in
    ([], begun_none c.args.campaign.now (answers_of c.args.mutation c.args.self.now.rows), none)

pub set_word-seen-requires-clause-test : goal.set_word-seen-requires-clause-test
set_word-seen-requires-clause-test c =
    let found : next_read c.args.campaign.now (words_of (answers_of c.args.mutation c.args.self.now.rows)) (words_of c.loop-answer.invariant.0) ≡ Some c.in-Some.answer =
    next_known c.args.campaign.now c.args.self.now.rows c.args.self.now c.args.mutation c.results-last.result c.loop-answer.seen c.loop-answer.invariant.0 c.next_read.result c.requires.state c.requires.mutation c.results-last.ensures c.loop-answer.invariant.2 c.next_read.ensures ∙ c.in-Some.is in
    (next_inside c.args.campaign.now (answers_of c.args.mutation c.args.self.now.rows) c.loop-answer.invariant.0 c.in-Some.answer c.requires.fit c.loop-answer.invariant.1 found).0

pub set_word-seen-requires-clause-word : goal.set_word-seen-requires-clause-word
set_word-seen-requires-clause-word c =
    let found : next_read c.args.campaign.now (words_of (answers_of c.args.mutation c.args.self.now.rows)) (words_of c.loop-answer.invariant.0) ≡ Some c.in-Some.answer =
    next_known c.args.campaign.now c.args.self.now.rows c.args.self.now c.args.mutation c.results-last.result c.loop-answer.seen c.loop-answer.invariant.0 c.next_read.result c.requires.state c.requires.mutation c.results-last.ensures c.loop-answer.invariant.2 c.next_read.ensures ∙ c.in-Some.is in
    next_word c.args.campaign.now c.args.self.now.rows c.args.mutation c.loop-answer.invariant.0 c.in-Some.answer c.requires.fit c.requires.state.form c.loop-answer.invariant.1 found

pub loop-answer-smaller : goal.loop-answer-smaller
loop-answer-smaller c =
    let found : next_read c.args.campaign.now (words_of (answers_of c.args.mutation c.args.self.now.rows)) (words_of c.loop-answer.invariant.0) ≡ Some c.in-Some.answer =
    next_known c.args.campaign.now c.args.self.now.rows c.args.self.now c.args.mutation c.results-last.result c.loop-answer.seen c.loop-answer.invariant.0 c.next_read.result c.requires.state c.requires.mutation c.results-last.ensures c.loop-answer.invariant.2 c.next_read.ensures ∙ c.in-Some.is in
    next_fewer c.args.campaign.now (answers_of c.args.mutation c.args.self.now.rows) c.loop-answer.invariant.0 c.in-Some.answer c.loop-answer.seen c.set_word-seen.result c.requires.fit c.loop-answer.invariant.1 found c.loop-answer.invariant.2 c.set_word-seen.ensures

pub loop-answer-preserved : goal.loop-answer-preserved
loop-answer-preserved c =
    let found : next_read c.args.campaign.now (words_of (answers_of c.args.mutation c.args.self.now.rows)) (words_of c.loop-answer.invariant.0) ≡ Some c.in-Some.answer =
    next_known c.args.campaign.now c.args.self.now.rows c.args.self.now c.args.mutation c.results-last.result c.loop-answer.seen c.loop-answer.invariant.0 c.next_read.result c.requires.state c.requires.mutation c.results-last.ensures c.loop-answer.invariant.2 c.next_read.ensures ∙ c.in-Some.is in
    let more : AreBegun c.args.campaign.now (answers_of c.args.mutation c.args.self.now.rows) (c.loop-answer.invariant.0 ++ c.in-Some.answer ∷ []) = begun_more c.args.campaign.now (answers_of c.args.mutation c.args.self.now.rows) c.loop-answer.invariant.0 c.in-Some.answer c.requires.fit c.loop-answer.invariant.1 found in
    let words : c.set_word-seen.result ≡ words_of (c.loop-answer.invariant.0 ++ c.in-Some.answer ∷ []) = next_words c.args.campaign.now (answers_of c.args.mutation c.args.self.now.rows) c.loop-answer.invariant.0 c.in-Some.answer c.loop-answer.seen c.set_word-seen.result c.requires.fit c.loop-answer.invariant.1 found c.loop-answer.invariant.2 c.set_word-seen.ensures in
    (c.loop-answer.invariant.0 ++ c.in-Some.answer ∷ [], more, words)

pub returns : goal.returns
returns c =
    let none : c.next_read.result ≡ None = c.in_default.is in
    let all : c.loop-answer.invariant.0 ≡ read_answers c.args.campaign.now (answers_of c.args.mutation c.args.self.now.rows) =
    begun_all c.args.campaign.now (answers_of c.args.mutation c.args.self.now.rows) c.loop-answer.invariant.0 c.requires.fit c.loop-answer.invariant.1 (next_known c.args.campaign.now c.args.self.now.rows c.args.self.now c.args.mutation c.results-last.result c.loop-answer.seen c.loop-answer.invariant.0 c.next_read.result c.requires.state c.requires.mutation c.results-last.ensures c.loop-answer.invariant.2 c.next_read.ensures ∙ none) in
    c.loop-answer.invariant.2 ∙ ap words_of all
