use Rattle.flat_scopes.proofs.Common.{◌∙◌}
use Rattle.flat_scopes.proofs.Owned.{looked_up}
use Rattle.flat_scopes.proofs.own.OwnNames.get.Goals as goal

pub returns : goal.returns
returns c = c.copied.ensures ∙ c.get.ensures.value ∙ rw (← c.self.view_is) (looked_up c.args.name.now c.self.inside.names.entries)
