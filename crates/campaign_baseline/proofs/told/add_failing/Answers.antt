use Rattle.campaign_baseline.proofs.Common.{string_bytes}
use Rattle.std.proofs.lemmas.Result.{on_ok_weaker}
use Rattle.campaign_baseline.proofs.Failing.{failing_more, passing_text}
use Rattle.campaign_baseline.proofs.told.add_failing.Goals as goal

pub returns-then-passes : goal.returns-then-passes
returns-then-passes c = passing_text c.args.names.now c.args.baseline (string_bytes c.args.text.now) (c.passes.ensures.0 c.if-passes.true)

pub returns : goal.returns
returns c =
    on_ok_weaker c.add_line.result (failing_more c.args.names.now c.args.baseline (string_bytes c.args.text.now) (string_bytes c.add_line.new.text) (λ is. (let passes = c.passes.ensures.1 is in cc))) c.add_line.ensures
