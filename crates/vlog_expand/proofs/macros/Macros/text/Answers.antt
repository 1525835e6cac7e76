use Rattle.vlog_expand.proofs.Common.{ap, sym, ◌∙◌, option_map}
use Rattle.vlog_expand.proofs.Defining.{definitions-read}
use Rattle.vlog_expand.proofs.macros.Macros.text.Goals as goal

pub returns : goal.returns
returns c = ap (option_map (λ text. text.now)) (c.copied.ensures ∙ c.get.ensures.value) ∙ sym (definitions-read c.args.self.now c.args.name.now)
