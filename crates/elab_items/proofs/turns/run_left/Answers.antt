use Rattle.elab_items.proofs.Common.{arith, names_of, flat_of}
use Rattle.elab_items.proofs.Running.{scope_is, sized_as}
use Rattle.elab_items.proofs.turns.run_left.Goals as goal

pub process_left-requires : goal.process_left-requires
process_left-requires c =
    let places = (flat_of c.args.flat.now).places in
    sized_as places c.args.builder.now c.args.place (names_of c.index_mut.result.now) (scope_is places c.copy_scopes.new.scopes.items c.args.place c.index_mut.result.now c.in_ok-copy_scopes.ensures (omega (arith, c.len.ensures)) c.index_mut.ensures.value) c.requires.stands
