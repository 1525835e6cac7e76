use Rattle.result_book.proofs.Common.{◌≡◌, count_by, is_none, answers_of, words_of}
use Rattle.result_book.proofs.Begun.{AreBegun}
use Rattle.result_book.proofs.state.State.read_answers.Given as goal

-- the answers so far are the first of the read tests, with these words
abbrev pub invariant-loop-answer : goal.invariant-loop-answer
invariant-loop-answer l = AreBegun l.campaign (answers_of l.mutation l.self.rows) l.answers.items × (l.seen ≡ words_of l.answers.items)

abbrev pub decreases-loop-answer : goal.decreases-loop-answer
decreases-loop-answer l = count_by is_none l.seen
