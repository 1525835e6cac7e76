use Rattle.cycle_sim.proofs.Common.{ℕ, List, sym, ◌∙◌, subst, Contains, take_all}
use Rattle.cycle_sim.proofs.Marking.{marked-more, others-more}
use Rattle.cycle_sim.proofs.marks.mark_all.Goals as goal

pub loop-place-preserved : goal.loop-place-preserved
loop-place-preserved c = record {
  long = c.mark.ensures.long ∙ c.loop-place.invariant.long;
  marked = marked-more c.loop-place.marks.items c.mark.new.marks.items c.args.places.now c.loop-place.place-index c.loop-place.invariant.marked c.loop-place-test.true c.mark.ensures.here c.mark.ensures.others;
  others = others-more c.args.marks.now.items c.loop-place.marks.items c.mark.new.marks.items c.args.places.now c.loop-place.place-index c.loop-place.invariant.others c.loop-place-test.true c.mark.ensures.others;
}

pub returns-clause-marked : goal.returns-clause-marked
returns-clause-marked c = λ k h. c.loop-place.invariant.marked k (subst (λ (l : List ℕ). Contains l k) (sym (take_all c.loop-place.place-index c.args.places.now c.loop-place-test.false)) h)
