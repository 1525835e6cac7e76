use Rattle.elab_items.proofs.Standing.{items_added}
use Rattle.elab_items.proofs.laws.items_are_added.Goals as goal

pub returns : goal.returns
returns c = items_added
