use Rattle.elab_items.proofs.Common.{sym, arith, names_of, flat_of}
use Rattle.elab_items.proofs.Building.{signals_at}
use Rattle.elab_items.proofs.Running.{scope_is, sized_as}
use Rattle.elab_items.proofs.run.build_run.Goals as goal

pub build_in-requires-clause-sized : goal.build_in-requires-clause-sized
build_in-requires-clause-sized c =
    let places = (flat_of c.args.flat.now).places in
    sized_as places c.args.builder.now c.args.place (names_of c.index_mut.result.now) (scope_is places c.copy_scopes.new.scopes.items c.args.place c.index_mut.result.now c.in_ok-copy_scopes.ensures (omega (arith, c.len.ensures)) c.index_mut.ensures.value) c.requires.stands

pub build_in-requires-clause-signals : goal.build_in-requires-clause-signals
build_in-requires-clause-signals c =
    let places = (flat_of c.args.flat.now).places in
    signals_at places c.args.builder.now c.args.place (names_of c.index_mut.result.now) (sym (scope_is places c.copy_scopes.new.scopes.items c.args.place c.index_mut.result.now c.in_ok-copy_scopes.ensures (omega (arith, c.len.ensures)) c.index_mut.ensures.value)) c.requires.stands
