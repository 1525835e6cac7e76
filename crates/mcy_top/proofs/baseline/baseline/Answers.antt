use Rattle.mcy_top.proofs.Common.{◌∙◌}
use Rattle.mcy_top.proofs.BaselineEnds.{delivered_answered, delivered_cause, delivered_quiet, delivered_tells, delivers_of, passes_of, tests_have_names}
use Rattle.mcy_top.proofs.baseline.baseline.Goals as goal

pub baseline_text-requires : goal.baseline_text-requires
baseline_text-requires g c = tests_have_names c.args.prepared.now c.in-Ok.list.items c.deref.result.now c.deref.ensures.value c.requires.plan c.in-Ok.ensures

pub returns-clause-told : goal.returns-clause-told
returns-clause-told g c =
    rw c.outcome.ensures (rw c.told.ensures (delivered_tells c.args.prepared.now c.in-Ok.list.items (g.O.Sink.written c.args.out.now) (g.O.Sink.written c.deliver.new.out) c.all_pass.result c.deliver.result c.in-Ok.ensures
    (passes_of c.all_pass.result c.in-Ok.list.items c.deref-2.result.now c.deref-2.ensures.value c.all_pass.ensures)
    (delivers_of c.args.prepared.now (g.O.Sink.written c.args.out.now) (g.O.Sink.written c.deliver.new.out) c.as_slice.result.now c.in-Ok.list.items c.deref.result.now c.deliver.result c.deref.ensures.value (c.as_slice.ensures ∙ c.in-Ok-baseline_text.ensures) c.deliver.ensures.wrote)))

pub returns-clause-quiet : goal.returns-clause-quiet
returns-clause-quiet g c =
    rw c.outcome.ensures (rw c.told.ensures (delivered_quiet c.args.prepared.now c.in-Ok.list.items (g.O.Sink.written c.args.out.now) (g.O.Sink.written c.deliver.new.out) c.all_pass.result c.deliver.result
    (delivers_of c.args.prepared.now (g.O.Sink.written c.args.out.now) (g.O.Sink.written c.deliver.new.out) c.as_slice.result.now c.in-Ok.list.items c.deref.result.now c.deliver.result c.deref.ensures.value (c.as_slice.ensures ∙ c.in-Ok-baseline_text.ensures) c.deliver.ensures.wrote)))

pub returns-clause-cause : goal.returns-clause-cause
returns-clause-cause g c files files' keeper = rw c.outcome.ensures (rw c.told.ensures (delivered_cause files files' keeper (g.O.Sink.faults c.args.out.now) (g.O.Sink.faults c.deliver.new.out) c.all_pass.result c.deliver.result c.deliver.ensures.cause))

pub returns-clause-answered : goal.returns-clause-answered
returns-clause-answered g c words held accepted = rw c.outcome.ensures (rw c.told.ensures (delivered_answered words held c.all_pass.result c.deliver.result accepted))
