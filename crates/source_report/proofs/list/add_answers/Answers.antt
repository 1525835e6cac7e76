use Rattle.source_report.proofs.Common.{◌∙◌}
use Rattle.source_report.proofs.Lines.{answers_text-more}
use Rattle.source_report.proofs.list.add_answers.Goals as goal

pub loop-answer-preserved : goal.loop-answer-preserved
loop-answer-preserved c =
    answers_text-more c.args.names.now c.loop-answer.before.now c.loop-answer.text.items c.add_answer.new.text.items c.args.answers.now c.loop-answer.answer-index _ c.loop-answer-test.true c.in_ok-add_answer.ensures
    ∙ c.loop-answer.invariant
