use Rattle.elab_once.proofs.Built.{built_once, items_laid}
use Rattle.elab_once.proofs.laws.items_are_built_once.Goals as goal

pub returns-clause-laid : goal.returns-clause-laid
returns-clause-laid c = items_laid

pub returns-clause-once : goal.returns-clause-once
returns-clause-once c = built_once
