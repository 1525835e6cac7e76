use Rattle.elab_items.proofs.Common.{names_of, flat_of, sym}
use Rattle.elab_items.proofs.Starting.{run_started}
use Rattle.elab_items.proofs.Running.{sized_as}
use Rattle.elab_items.proofs.Building.{signals_at}
use Rattle.elab_items.proofs.start.set_run.Goals as goal

pub start_process-requires-clause-sized : goal.start_process-requires-clause-sized
start_process-requires-clause-sized c = sized_as (flat_of c.args.flat.now).places c.args.builder.now c.args.place (names_of c.in-Some.scope.now) (sym c.in-Some.ensures) c.requires

pub start_process-requires-clause-signals : goal.start_process-requires-clause-signals
start_process-requires-clause-signals c = signals_at (flat_of c.args.flat.now).places c.args.builder.now c.args.place (names_of c.in-Some.scope.now) c.in-Some.ensures c.requires

pub returns-clause-starts : goal.returns-clause-starts
returns-clause-starts c = λ store can start. run_started (flat_of c.args.flat.now).places c.args.builder.now c.start_process.new.builder c.args.place c.args.process.now (names_of c.in-Some.scope.now) store c.in-Some.ensures c.start_process.ensures.starts can start
