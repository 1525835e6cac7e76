use Rattle.mcy_top.proofs.Living.{lived_of, unloaded_left}
use Rattle.mcy_top.proofs.laws.call_is_a_life.Goals as goal

pub returns-clause-life : goal.returns-clause-life
returns-clause-life g c words held = lived_of words held (g.K.Keeper.holds c.args.before.now) (g.K.Keeper.leaves c.args.before.now) (g.K.Keeper.leaves c.args.after.now)

pub returns-clause-unloaded : goal.returns-clause-unloaded
returns-clause-unloaded g c words taken taken' outcome = unloaded_left words (g.K.Keeper.leaves c.args.before.now) (g.K.Keeper.leaves c.args.after.now) taken taken' outcome
