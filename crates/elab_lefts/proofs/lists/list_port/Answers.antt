use Rattle.std.proofs.Common.{slice_get}
use Rattle.std.proofs.lemmas.Option.{slice_get_past}
use Rattle.elab_lefts.proofs.Scopes.{no_port}
use Rattle.elab_lefts.proofs.lists.list_port.Goals as goal

pub returns-in-None : goal.returns-in-None
returns-in-None c =
    no_port c.args.signals.now c.args.port (slice_get c.args.signals.now c.args.port) c.args.lefts.now.items (slice_get_past c.args.signals.now c.args.port c.in-None.ensures.lookup.3)
