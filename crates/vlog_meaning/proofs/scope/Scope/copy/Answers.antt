use Rattle.vlog_meaning.proofs.Common.{◌∙◌}
use Rattle.vlog_meaning.proofs.Lookups.{cloned}
use Rattle.vlog_meaning.proofs.scope.Scope.copy.Goals as goal

pub returns : goal.returns
returns c = cloned c.self.inside.names.entries c.in_ok-clone.field-0.entries c.in_ok-clone.ensures.cases ∙ c.self.view_is
