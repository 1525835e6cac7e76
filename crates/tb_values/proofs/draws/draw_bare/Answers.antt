use Rattle.tb_values.proofs.Common.{refl, ◌∙◌, function_of}
use Rattle.tb_values.proofs.Drawing.{bare_says}
use Rattle.tb_values.proofs.draws.draw_bare.Goals as goal

pub returns-in_ok-copy-in-None : goal.returns-in_ok-copy-in-None
returns-in_ok-copy-in-None c = λ names. bare_says names c.args.phase c.args.name.now c.in_ok-copy-in-None.field-0 (function_of c.args.name.now.name) c.from_vec-arguments.result _ c.args.words.now c.number_of.new.words (c.in-None.ensures names).0 (c.in-None.ensures names).1 refl c.in_ok-copy-in-None.ensures (c.from_vec-arguments.ensures ∙ c.new.ensures.items)
