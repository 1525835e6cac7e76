use Rattle.vlog_effects.proofs.Cases.{last-item-serves}
use Rattle.vlog_effects.proofs.laws.last_item_serves.Goals as goal

pub returns : goal.returns
returns c = last-item-serves
