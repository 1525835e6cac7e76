use Rattle.flat_items.proofs.Common.{◌∙◌}
use Rattle.flat_items.proofs.Numbered.{looked_up}
use Rattle.flat_items.proofs.numbers.ModuleNumbers.get.Goals as goal

pub returns : goal.returns
returns c = c.copied.ensures ∙ c.get.ensures.value ∙ rw (← c.self.view_is) (looked_up c.args.name.now c.self.inside.numbers.entries)
