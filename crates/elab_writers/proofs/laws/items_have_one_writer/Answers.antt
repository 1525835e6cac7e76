use Rattle.elab_writers.proofs.OneWriter.{one_writer}
use Rattle.elab_writers.proofs.laws.items_have_one_writer.Goals as goal

pub returns : goal.returns
returns c = one_writer c.accepted_bodies_can_be_built.ensures
