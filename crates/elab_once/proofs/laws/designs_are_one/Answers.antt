use Rattle.elab_once.proofs.Meaning.{has_one_meaning}
use Rattle.elab_once.proofs.laws.designs_are_one.Goals as goal

pub returns : goal.returns
returns c = has_one_meaning
