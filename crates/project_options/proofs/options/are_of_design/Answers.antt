use Rattle.project_options.proofs.Common.{sym, ◌∙◌, around_of, is_of_design}
use Rattle.project_options.proofs.Each.{all_fails, all_step}
use Rattle.project_options.proofs.options.are_of_design.Goals as goal

pub returns-then-not-is_of_design : goal.returns-then-not-is_of_design
returns-then-not-is_of_design c = all_fails c.args.words.now c.loop-word.word-index _ c.loop-word-test.true (is_of_design (around_of c.args.around.now)) _ (sym c.is_of_design.ensures ∙ c.if-not-is_of_design.true) c.loop-word.invariant

pub loop-word-preserved : goal.loop-word-preserved
loop-word-preserved c = all_step c.args.words.now c.loop-word.word-index _ c.loop-word-test.true (is_of_design (around_of c.args.around.now)) _ (sym c.is_of_design.ensures ∙ c.if-not-is_of_design.false) c.loop-word.invariant
