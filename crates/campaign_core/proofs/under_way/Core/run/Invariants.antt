use Rattle.campaign_core.proofs.Common.{◌≡◌, ◌+◌, ◌≤◌, IsTrue, List, Keeps, Event, events_left, Program, HasFree, IsWithin, Reached, book_of, GivesTheSame, IsUnderWay}
use Rattle.campaign_core.proofs.under_way.Core.run.Given as goal

abbrev pub invariant-events : goal.invariant-events
invariant-events g l = record {
  course : (events : List Event) × Program g.T.Tester.gives g.T.Tester.most l.initial.self events l.self;
  order : IsUnderWay (g.T.Tester.gives l.self.tester) l.self;
  same : GivesTheSame (g.T.Tester.gives l.initial.self.tester) (g.T.Tester.gives l.self.tester);
  most : g.T.Tester.most l.self.tester ≡ g.T.Tester.most l.initial.self.tester;
  steps : l.steps + l.initial.self.started ≡ l.initial.steps + l.self.started;
  later : l.initial.self.acknowledged ≤ l.self.acknowledged;
  within : IsWithin l.stop_after l.initial.self.acknowledged l.self.acknowledged;
  room : Reached l.stop_after l.initial.self.acknowledged l.self.acknowledged → HasFree l.initial.self.slots → HasFree l.self.slots;
  tells : g.K.Keeper.tells l.keeper → g.K.Keeper.tells l.initial.keeper;
  settled : IsTrue (g.K.Keeper.is_settled l.keeper);
  kept : g.K.Keeper.tells l.keeper → Keeps (g.K.Keeper.holds l.keeper) (g.K.Keeper.leaves l.keeper) (book_of l.self.campaign l.self.state.rows);
  faults : g.K.Keeper.faults l.initial.keeper ≤ g.K.Keeper.faults l.keeper;
}

-- each event leaves fewer
abbrev pub decreases-events : goal.decreases-events
decreases-events g l = events_left (g.T.Tester.most l.initial.self.tester) l.self
