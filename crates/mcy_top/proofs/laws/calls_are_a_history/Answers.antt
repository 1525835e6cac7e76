use Rattle.mcy_top.proofs.Histories.{calls_find, calls_history, calls_safe, calls_tell}
use Rattle.mcy_top.proofs.laws.calls_are_a_history.Goals as goal

pub returns-clause-history : goal.returns-clause-history
returns-clause-history g c = calls_history g.K.Keeper.holds g.K.Keeper.leaves

pub returns-clause-safe : goal.returns-clause-safe
returns-clause-safe g c = calls_safe g.K.Keeper.holds g.K.Keeper.leaves

pub returns-clause-texts : goal.returns-clause-texts
returns-clause-texts g c = calls_tell g.K.Keeper.holds g.K.Keeper.leaves

pub returns-clause-restarts : goal.returns-clause-restarts
returns-clause-restarts g c = calls_find g.K.Keeper.tells g.K.Keeper.holds g.K.Keeper.leaves g.met.K.Keeper.survives
