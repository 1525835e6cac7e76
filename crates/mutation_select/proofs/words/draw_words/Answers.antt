use Rattle.mutation_select.proofs.Common.{rules, generator}
use Rattle.mutation_select.proofs.words.draw_words.Goals as goal

pub loop-number-init : goal.loop-number-init
unfolding generator
loop-number-init c = search rules
