use Rattle.project_options.proofs.Common.{sym, ◌∙◌}
use Rattle.project_options.proofs.Each.{once_step, once_twice}
use Rattle.project_options.proofs.forms.are_once.Goals as goal

pub returns-then-is_among : goal.returns-then-is_among
returns-then-is_among c = once_twice c.args.words.now c.loop-i.i _ c.loop-i-test.true _ (sym c.is_among.ensures ∙ c.if-is_among.true) c.loop-i.invariant

pub loop-i-preserved : goal.loop-i-preserved
loop-i-preserved c = once_step c.args.words.now c.loop-i.i _ c.loop-i-test.true _ (sym c.is_among.ensures ∙ c.if-is_among.false) c.loop-i.invariant
