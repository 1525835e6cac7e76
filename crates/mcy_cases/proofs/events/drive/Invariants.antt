use Rattle.std.proofs.Common.{◌≡◌, IsTrue}
use Rattle.mcy_keeper.specs.Books.{Keeps}
use Rattle.campaign_core.specs.Ahead.{events_left}
use Rattle.campaign_core.specs.Running.{book_of}
use Rattle.campaign_core.specs.UnderWay.{IsUnderWay}
use Rattle.mcy_cases.proofs.events.drive.Given as goal

abbrev pub invariant-events : goal.invariant-events
invariant-events g l = record {
  order : IsUnderWay (g.T.Tester.gives l.core.tester) l.core;
  most : g.T.Tester.most l.core.tester ≡ g.T.Tester.most l.initial.core.tester;
  settled : IsTrue (g.K.Keeper.is_settled l.keeper);
  kept : g.K.Keeper.tells l.keeper → Keeps (g.K.Keeper.holds l.keeper) (g.K.Keeper.leaves l.keeper) (book_of l.core.campaign l.core.state.rows);
}

-- each event leaves fewer
abbrev pub decreases-events : goal.decreases-events
decreases-events g l = events_left (g.T.Tester.most l.initial.core.tester) l.core
