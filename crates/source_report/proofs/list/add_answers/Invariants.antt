use Rattle.source_report.proofs.Common.{◌≡◌, ◌++◌, [], drop, answers_text}
use Rattle.source_report.proofs.list.add_answers.Given as goal

-- the answers so far and those to come are all answers
abbrev pub invariant-loop-answer : goal.invariant-loop-answer
invariant-loop-answer l = l.text.items ++ answers_text l.before l.names (drop l.answer-index l.answers) ≡ l.initial.text.items ++ answers_text [] l.names l.answers
