use Rattle.elab_items.proofs.Common.{arith, names_of, flat_of}
use Rattle.elab_items.proofs.Running.{scope_is, sized_as}
use Rattle.elab_items.proofs.numbers.run_numbers.Goals as goal

pub process_writes-requires : goal.process_writes-requires
process_writes-requires c =
    let places = (flat_of c.args.flat.now).places in
    sized_as places c.args.builder.now c.args.place (names_of c.index_mut.result.now) (scope_is places c.args.scopes.now.items c.args.place c.index_mut.result.now c.requires.copies (omega (arith, c.len.ensures)) c.index_mut.ensures.value) c.requires.stands
