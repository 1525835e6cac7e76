use Rattle.elab_items.proofs.Common.{names_of, flat_of}
use Rattle.elab_items.proofs.Starting.{declared_started}
use Rattle.elab_items.proofs.start.set_declared.Goals as goal

pub returns-clause-starts : goal.returns-clause-starts
returns-clause-starts c = λ store can start. declared_started (flat_of c.args.flat.now).places c.args.builder.now c.set_value.new.builder c.args.number c.args.place c.args.value.now (names_of c.in-Some.scope.now) store c.in-Some.ensures (c.set_value.ensures.starts store) can start
