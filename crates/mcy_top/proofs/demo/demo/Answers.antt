use Rattle.mcy_top.proofs.Common.{List, ℕ, inr, refl, subst, Delivers}
use Rattle.mcy_top.proofs.ShownEnds.{delivered_cause, delivered_quiet, delivered_shown, refused_cause, refused_quiet, refused_shown}
use Rattle.mcy_top.proofs.demo.demo.Goals as goal

-- the texts are refused

pub returns-in-Err-clause-shown : goal.returns-in-Err-clause-shown
returns-in-Err-clause-shown g c = rw c.refused.ensures (refused_shown c.args.seed c.args.cells (g.O.Sink.written c.args.out.now) c.args.steps.now c.in-Err.refusal c.in-Err.ensures.refused c.in-Err.ensures.texts)

pub returns-in-Err-clause-quiet : goal.returns-in-Err-clause-quiet
returns-in-Err-clause-quiet g c = rw c.refused.ensures (refused_quiet (g.O.Sink.written c.args.out.now) c.in-Err.refusal c.in-Err.ensures.texts)

pub returns-in-Err-clause-cause : goal.returns-in-Err-clause-cause
returns-in-Err-clause-cause g c files keeper = rw c.refused.ensures (refused_cause files keeper (g.O.Sink.faults c.args.out.now) c.in-Err.refusal c.in-Err.ensures.texts)

-- the summary is written

pub returns-in-Ok-summary_of-clause-shown : goal.returns-in-Ok-summary_of-clause-shown
returns-in-Ok-summary_of-clause-shown g c =
    rw c.outcome.ensures (delivered_shown c.args.seed c.args.cells (g.O.Sink.written c.args.out.now) (g.O.Sink.written c.deliver.new.out) c.args.steps.now c.summary_of.new.steps c.in-Ok.prepared c.in-Ok-summary_of.text c.deliver.result c.in-Ok.ensures.made c.summary_of.ensures.part c.in-Ok-summary_of.ensures.whole
    (subst (λ (text : List ℕ). Delivers (g.O.Sink.written c.args.out.now) (g.O.Sink.written c.deliver.new.out) text c.deliver.result) c.as_slice.ensures c.deliver.ensures.wrote))

pub returns-in-Ok-summary_of-clause-quiet : goal.returns-in-Ok-summary_of-clause-quiet
returns-in-Ok-summary_of-clause-quiet g c = rw c.outcome.ensures (delivered_quiet (g.O.Sink.written c.args.out.now) (g.O.Sink.written c.deliver.new.out) _ c.deliver.result c.deliver.ensures.wrote)

pub returns-in-Ok-summary_of-clause-cause : goal.returns-in-Ok-summary_of-clause-cause
returns-in-Ok-summary_of-clause-cause g c files keeper = rw c.outcome.ensures (delivered_cause files keeper (g.O.Sink.faults c.args.out.now) (g.O.Sink.faults c.deliver.new.out) c.deliver.result c.deliver.ensures.cause)

-- there was no memory

pub returns-clause-shown : goal.returns-clause-shown
returns-clause-shown g c = (refl, inr (c.in-Ok.prepared, c.in-Ok.ensures.made, c.summary_of.ensures.part))
