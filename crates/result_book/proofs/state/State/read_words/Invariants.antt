use Rattle.result_book.proofs.Common.{◌≡◌, List, count_by, is_none, answers_of, Answer, words_of}
use Rattle.result_book.proofs.Begun.{AreBegun}
use Rattle.result_book.proofs.state.State.read_words.Given as goal

-- the words so far are those of the first read tests
abbrev pub invariant-loop-answer : goal.invariant-loop-answer
invariant-loop-answer l = (done : List Answer) × AreBegun l.campaign (answers_of l.mutation l.self.rows) done × (l.seen ≡ words_of done)

abbrev pub decreases-loop-answer : goal.decreases-loop-answer
decreases-loop-answer l = count_by is_none l.seen
