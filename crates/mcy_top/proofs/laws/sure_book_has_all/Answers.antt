use Rattle.mcy_top.proofs.Living.{call_covered}
use Rattle.mcy_top.proofs.laws.sure_book_has_all.Goals as goal

pub returns-clause-covered : goal.returns-clause-covered
returns-clause-covered g c words held = call_covered words held (g.K.Keeper.holds c.args.before.now) (g.K.Keeper.leaves c.args.before.now) (g.K.Keeper.leaves c.args.after.now)

pub returns-clause-some : goal.returns-clause-some
returns-clause-some g c = g.met.K.Keeper.survives c.args.after.now
