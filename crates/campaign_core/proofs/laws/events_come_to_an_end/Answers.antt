use Rattle.campaign_core.proofs.Endings.{takes_fewer}
use Rattle.campaign_core.proofs.laws.events_come_to_an_end.Goals as goal

pub returns : goal.returns
returns g c most old new e order allowed taken other = takes_fewer (g.T.Tester.gives old.tester) most old new e order allowed taken other
