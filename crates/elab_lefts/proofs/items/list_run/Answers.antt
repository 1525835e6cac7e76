use Rattle.elab_lefts.proofs.Common.{arith, flat_of}
use Rattle.elab_lefts.proofs.Scopes.{copy_sized}
use Rattle.elab_lefts.proofs.items.list_run.Goals as goal

pub list_process-requires : goal.list_process-requires
list_process-requires c = copy_sized (flat_of c.args.flat.now) c.copy_scopes.new.scopes.items c.args.place c.index_mut.result.now c.requires.sound c.in_ok-copy_scopes.ensures (omega (arith, c.len.ensures)) c.index_mut.ensures.value
