use Rattle.campaign_core.proofs.Common.{◌∙◌, ◌-◌, ◌≤◌, [], ◌++◌, ◌∷◌, refl, sym, arith, err_from_is_err_and, Reached}
use Rattle.campaign_core.proofs.RunBooks.{kept_after, kept_told, left_next}
use Rattle.campaign_core.proofs.RunCounts.{reached, takes_later, takes_one, takes_room, takes_started, unreached, within_more, within_none}
use Rattle.campaign_core.proofs.RunEnds.{broke_by, ran_ended, ran_reached, torn_by}
use Rattle.campaign_core.proofs.Runs.{most_through, next_fewer, program_more, same_through}
use Rattle.campaign_core.proofs.under_way.Core.run.Goals as goal

pub events-init : goal.events-init
events-init g c = record {
  course = ([], refl);
  order = c.requires.order;
  same = record { on = λ asked word h. h; back = λ asked word h. h };
  most = refl;
  steps = refl;
  later = omega arith;
  within = within_none c.args.stop_after c.args.self.now.acknowledged;
  room = λ all free. free;
  tells = λ tells. tells;
  settled = c.requires.settled;
  kept = c.requires.kept;
  faults = omega arith;
}

-- a keeper that tells keeps the book of these rows alone
pub event-requires-clause-told : goal.event-requires-clause-told
event-requires-clause-told g c =
    kept_told (g.T.Tester.gives c.events.self.tester) c.events.self (g.K.Keeper.holds c.events.keeper) (g.K.Keeper.leaves c.events.keeper) c.events.invariant.order
    (λ book other held told. g.met.K.Keeper.one c.events.keeper book other held told)
    (λ book held. c.events.invariant.kept (g.met.K.Keeper.told c.events.keeper book held))

pub events-preserved : goal.events-preserved
events-preserved g c =
    let comes = sym c.next.ensures.next ∙ c.in-Some.is in
    let taken = c.in_ok-event.ensures.taken in
    let same = c.event.ensures.same in
    let later : c.args.self.now.acknowledged ≤ c.events.self.acknowledged = c.events.invariant.later in
    let short : Reached c.args.stop_after c.args.self.now.acknowledged c.events.self.acknowledged → ⊥ = unreached c.args.stop_after c.args.self.now.acknowledged c.events.self.acknowledged (c.acknowledged.result - c.acknowledged-before.result) (omega (arith, later)) (sym c.if-eq.ensures) in record {
      course = (
        c.events.invariant.course.0 ++ c.in-Some.event ∷ [],
        program_more g.T.Tester.gives g.T.Tester.most c.events.invariant.course.0 c.args.self.now c.events.self c.event.new.self c.in-Some.event c.events.invariant.course.1 comes same.gives_are same.most_are taken,
      );
      order = c.event.ensures.order;
      same = same_through (g.T.Tester.gives c.args.self.now.tester) (g.T.Tester.gives c.events.self.tester) (g.T.Tester.gives c.event.new.self.tester) c.events.invariant.same same.gives_are;
      most = most_through (g.T.Tester.most c.args.self.now.tester) (g.T.Tester.most c.events.self.tester) (g.T.Tester.most c.event.new.self.tester) c.events.invariant.most same.most_are;
      steps = omega (arith, c.in_ok-event.ensures.steps, takes_started (g.T.Tester.gives c.events.self.tester) (g.T.Tester.most c.events.self.tester) c.events.self c.event.new.self c.in-Some.event taken, c.events.invariant.steps);
      later = omega (arith, takes_later (g.T.Tester.gives c.events.self.tester) (g.T.Tester.most c.events.self.tester) c.events.self c.event.new.self c.in-Some.event taken, later);
      within = within_more c.args.stop_after c.args.self.now.acknowledged c.events.self.acknowledged c.event.new.self.acknowledged short
          (takes_one (g.T.Tester.gives c.events.self.tester) (g.T.Tester.most c.events.self.tester) c.events.self c.event.new.self c.in-Some.event taken) c.events.invariant.within;
      room = λ all free. takes_room (g.T.Tester.gives c.events.self.tester) (g.T.Tester.most c.events.self.tester) c.events.self c.event.new.self c.args.stop_after c.args.self.now.acknowledged short c.in-Some.event taken all;
      tells = λ tells. c.events.invariant.tells (c.event.ensures.tells tells);
      settled = c.in_ok-event.ensures.settled;
      kept = λ tells. kept_after (g.T.Tester.gives c.events.self.tester) (g.T.Tester.most c.events.self.tester) g.K.Keeper.holds g.K.Keeper.leaves c.events.self c.event.new.self c.events.keeper c.event.new.keeper
          (c.events.invariant.kept (c.event.ensures.tells tells)) c.in-Some.event c.event.result c.in_ok-event.was c.event.ensures.untouched (c.event.ensures.kept tells) taken;
      faults = omega (arith, c.event.ensures.cause.later, c.events.invariant.faults);
    }

pub events-smaller : goal.events-smaller
events-smaller g c =
    next_fewer (g.T.Tester.gives c.events.self.tester) (g.T.Tester.most c.events.self.tester) (g.T.Tester.most c.args.self.now.tester) c.events.self c.event.new.self c.in-Some.event
    c.events.invariant.most c.events.invariant.order c.in-Some.ensures.allowed c.in_ok-event.ensures.taken (sym c.next.ensures.next ∙ c.in-Some.is)

-- an event that was refused
pub returns-in_err-event-clause-broke : goal.returns-in_err-event-clause-broke
returns-in_err-event-clause-broke g c =
    let comes = sym c.next.ensures.next ∙ c.in-Some.is in
    let short : Reached c.args.stop_after c.args.self.now.acknowledged c.events.self.acknowledged → ⊥ = unreached c.args.stop_after c.args.self.now.acknowledged c.events.self.acknowledged (c.acknowledged.result - c.acknowledged-before.result) (omega (arith, c.events.invariant.later)) (sym c.if-eq.ensures) in
    let p = err_from_is_err_and c.from_residual.result c.from_residual.ensures.1 in
    rw p.1 (broke_by g.T.Tester.gives g.T.Tester.most c.args.stop_after c.args.self.now c.events.self c.events.invariant.course c.events.invariant.within c.in-Some.event comes short c.event.new.self c.in_err-event.ensures.refused)

pub returns-in_err-event-clause-left : goal.returns-in_err-event-clause-left
returns-in_err-event-clause-left g c tells =
    let comes = sym c.next.ensures.next ∙ c.in-Some.is in
    let short : Reached c.args.stop_after c.args.self.now.acknowledged c.events.self.acknowledged → ⊥ = unreached c.args.stop_after c.args.self.now.acknowledged c.events.self.acknowledged (c.acknowledged.result - c.acknowledged-before.result) (omega (arith, c.events.invariant.later)) (sym c.if-eq.ensures) in
    let p = err_from_is_err_and c.from_residual.result c.from_residual.ensures.1 in
    rw p.1 (torn_by g.T.Tester.gives g.T.Tester.most c.args.stop_after c.args.self.now c.events.self c.events.invariant.course c.events.invariant.within c.in-Some.event comes short c.event.new.self c.in_err-event.ensures.refused
    (g.K.Keeper.leaves c.event.new.keeper)
    (left_next (g.T.Tester.gives c.events.self.tester) (g.T.Tester.most c.events.self.tester) g.K.Keeper.holds g.K.Keeper.leaves c.events.self c.event.new.self c.events.keeper c.event.new.keeper
    (c.events.invariant.kept (c.event.ensures.tells tells)) c.in-Some.event c.in_err-event.field-0.0 c.event.result c.in_err-event.was comes c.event.ensures.untouched (c.event.ensures.kept tells)))

-- the rows asked for are there
pub returns-then-eq-clause-ran : goal.returns-then-eq-clause-ran
returns-then-eq-clause-ran g c =
    ran_reached g.T.Tester.gives g.T.Tester.most c.args.stop_after c.args.self.now c.events.self c.events.invariant.course c.events.invariant.within c.events.invariant.room
    (reached c.args.stop_after c.args.self.now.acknowledged c.events.self.acknowledged (c.acknowledged.result - c.acknowledged-before.result) (omega (arith, c.events.invariant.later)) (sym c.if-eq.ensures))

-- no event comes next
pub returns-clause-ran : goal.returns-clause-ran
returns-clause-ran g c =
    ran_ended g.T.Tester.gives g.T.Tester.most c.args.stop_after c.args.self.now c.events.self c.events.invariant.course c.events.invariant.within c.events.invariant.room (c.next.ensures.none.0 c.in_default.is)
