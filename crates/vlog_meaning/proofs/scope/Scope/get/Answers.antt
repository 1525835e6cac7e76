use Rattle.vlog_meaning.proofs.Common.{◌∙◌}
use Rattle.vlog_meaning.proofs.Lookups.{looked_up}
use Rattle.vlog_meaning.proofs.scope.Scope.get.Goals as goal

pub returns : goal.returns
returns c = c.copied.ensures ∙ c.get.ensures.value ∙ rw (← c.self.view_is) (looked_up c.args.name.now c.self.inside.names.entries)
