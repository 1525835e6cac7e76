use Rattle.mcy_top.proofs.Common.{◌≡◌, ◌≢◌, ◌∙◌, [], Option, ap, inl, inr, IfOk-weaker, Held, IsPlan, failing_text, IsFailingText}
use Rattle.campaign_reading.specs.declared.refusal.Refusal.TheVariants.{Memory}
use Rattle.mcy_top.proofs.BaselineEnds.{tests_have_names}
use Rattle.mcy_top.proofs.baseline.failing_baselines.Goals as goal

pub baselines-requires : goal.baselines-requires
baselines-requires g c = record { config = c.in-Ok.ensures.made.config; files = c.in-Ok.ensures.made.files; made = c.in-Ok.ensures.made.made }

pub failing_text-requires : goal.failing_text-requires
failing_text-requires g c =
    let plan : IsPlan c.in-Ok.prepared = record { config = c.in-Ok.ensures.made.config; files = c.in-Ok.ensures.made.files; made = c.in-Ok.ensures.made.made } in
    tests_have_names c.in-Ok.prepared c.in_ok-list.list.items c.deref.result.now c.deref.ensures.value plan c.in_ok-list.ensures

pub returns-clause-text : goal.returns-clause-text
returns-clause-text g c =
    let held : Option Held = g.F.SourceFiles.held c.args.files.now in
    IfOk-weaker c.failing_text.result (λ text. text ≡ failing_text c.in-Ok.prepared.campaign.test_names c.deref.result.now) (IsFailingText held (g.F.SourceFiles.faults c.args.files.now) (g.F.SourceFiles.faults c.read_campaign.new.files))
    (λ text is. inl (record { prepared = c.in-Ok.prepared; made = c.in-Ok.ensures.made; list = c.in_ok-list.list.items; are = c.in_ok-list.ensures; is = is ∙ ap (failing_text c.in-Ok.prepared.campaign.test_names) c.deref.ensures.value })) c.failing_text.ensures

pub returns-in-Err-clause-text : goal.returns-in-Err-clause-text
returns-in-Err-clause-text g c =
    let held : Option Held = g.F.SourceFiles.held c.args.files.now in
    IfOk-weaker c.none_told.result (λ text. (text ≡ []) × (c.in-Err.refusal ≢ Memory)) (IsFailingText held (g.F.SourceFiles.faults c.args.files.now) (g.F.SourceFiles.faults c.read_campaign.new.files))
    (λ text is. inr (is.0, record { refusal = c.in-Err.refusal; why = c.in-Err.ensures.refused; cause = c.in-Err.ensures.cause; found = is.1 })) c.none_told.ensures
