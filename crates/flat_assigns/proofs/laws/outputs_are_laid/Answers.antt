use Rattle.flat_assigns.proofs.Laying.{outputs_laid}
use Rattle.flat_assigns.proofs.laws.outputs_are_laid.Goals as goal

pub returns : goal.returns
returns c = outputs_laid
