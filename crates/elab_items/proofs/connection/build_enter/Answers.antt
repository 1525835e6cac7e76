use Rattle.elab_items.proofs.Common.{names_of, flat_of}
use Rattle.elab_items.proofs.Building.{signals_at}
use Rattle.elab_items.proofs.connection.build_enter.Goals as goal

pub enter-requires-clause-signals : goal.enter-requires-clause-signals
enter-requires-clause-signals c = signals_at (flat_of c.args.flat.now).places c.args.builder.now c.args.place (names_of c.in-Some.scope.now) c.in-Some.ensures c.requires
