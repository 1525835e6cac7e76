-- What a scope that is being opened stands for.
use Rattle.vlog_meaning.specs.Scopes.{names_of}
use Rattle.flat_scopes.specs.declared.opening.Opening.{Opening}
use Rattle.flat_scopes.specs.Owns.{what_of}
use Rattle.flat_scopes.specs.Openings.{Opened}

abbrev pub opened_of : Opening → Opened
opened_of o = record { own = what_of o.own; names = names_of o.scope; signals = o.signals.items; steps = o.steps.items; constructs = o.constructs }
