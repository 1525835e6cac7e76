use Rattle.mcy_top.proofs.Common.{◌≡◌, ◌∙◌, ap, IfOk-weaker, summary_text, IsSummary}
use Rattle.mcy_top.proofs.ShownEnds.{made_plan, part_is, summary_is}
use Rattle.mcy_top.proofs.demo.summary_of.Goals as goal

pub run_whole-requires : goal.run_whole-requires
run_whole-requires g c = record { plan = made_plan c.args.seed c.args.cells c.args.prepared.now c.requires.made; fixed = c.requires.fixed }

pub returns-clause-whole : goal.returns-clause-whole
returns-clause-whole g c =
    IfOk-weaker c.summary.result (λ text. text ≡ summary_text c.args.seed c.args.cells c.args.prepared.now.site_count c.as_slice.result.now) (IsSummary c.args.seed c.args.cells c.args.steps.now c.run_whole.new.steps)
    (λ text is. summary_is c.args.seed c.args.cells c.args.steps.now c.run_whole.new.steps c.args.prepared.now c.in_ok-status.status.text text c.requires.made c.requires.limit c.in_ok-status.ensures.whole
    (is ∙ ap (summary_text c.args.seed c.args.cells c.args.prepared.now.site_count) c.as_slice.ensures)) c.summary.ensures

pub returns-clause-part : goal.returns-clause-part
returns-clause-part g c = part_is c.args.prepared.now c.args.steps.now c.run_whole.new.steps c.requires.limit c.run_whole.ensures.part

pub returns-in_err-status-clause-part : goal.returns-in_err-status-clause-part
returns-in_err-status-clause-part g c = part_is c.args.prepared.now c.args.steps.now c.run_whole.new.steps c.requires.limit c.run_whole.ensures.part
