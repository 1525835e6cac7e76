use Rattle.std.proofs.Common.{◌∙◌, refl, sym}
use Rattle.campaign_core.proofs.RunBooks.{kept_after, kept_told}
use Rattle.campaign_core.proofs.Runs.{most_through, next_fewer}
use Rattle.mcy_cases.proofs.events.drive.Goals as goal

pub events-init : goal.events-init
events-init g c = record { order = c.requires.order; most = refl; settled = c.requires.settled; kept = c.requires.kept }

-- a keeper that tells keeps the book of these rows alone
pub event-requires-clause-told : goal.event-requires-clause-told
event-requires-clause-told g c =
    kept_told (g.T.Tester.gives c.events.core.tester) c.events.core (g.K.Keeper.holds c.events.keeper) (g.K.Keeper.leaves c.events.keeper) c.events.invariant.order
    (λ book other held told. g.met.K.Keeper.one c.events.keeper book other held told)
    (λ book held. c.events.invariant.kept (g.met.K.Keeper.told c.events.keeper book held))

pub events-preserved : goal.events-preserved
events-preserved g c = record {
  order = c.event.ensures.order;
  most = most_through (g.T.Tester.most c.args.core.now.tester) (g.T.Tester.most c.events.core.tester) (g.T.Tester.most c.event.new.self.tester) c.events.invariant.most c.event.ensures.same.most_are;
  settled = c.in_ok-event.ensures.settled;
  kept = λ tells. kept_after (g.T.Tester.gives c.events.core.tester) (g.T.Tester.most c.events.core.tester) g.K.Keeper.holds g.K.Keeper.leaves c.events.core c.event.new.self c.events.keeper c.event.new.keeper
      (c.events.invariant.kept (c.event.ensures.tells tells)) c.in-Some.event c.event.result c.in_ok-event.was c.event.ensures.untouched (c.event.ensures.kept tells) c.in_ok-event.ensures.taken;
}

pub events-smaller : goal.events-smaller
events-smaller g c =
    next_fewer (g.T.Tester.gives c.events.core.tester) (g.T.Tester.most c.events.core.tester) (g.T.Tester.most c.args.core.now.tester) c.events.core c.event.new.self c.in-Some.event
    c.events.invariant.most c.events.invariant.order c.in-Some.ensures.allowed c.in_ok-event.ensures.taken (sym c.next.ensures.next ∙ c.in-Some.is)
