use Rattle.source_report.proofs.Common.{◌≡◌, ◌+◌, ◌++◌, [], length, drop, ap, sym, ◌∙◌, append-nil, arith, drop_all, groups, Tag, end_count, tag_counts}
use Rattle.source_report.proofs.Lines.{tag_counts-more}
use Rattle.source_report.proofs.status.tag_counts.Goals as goal

pub loop-tag-preserved : goal.loop-tag-preserved
loop-tag-preserved c =
    let campaign = c.args.campaign.now in
    let answers = groups c.args.campaign.now c.args.state.now.rows in
    ap (λ counts. counts ++ tag_counts campaign answers (c.loop-tag.tag + 1) (drop (c.loop-tag.tag + 1) campaign.tags)) c.in_ok-push.ensures.items
    ∙ tag_counts-more campaign answers c.loop-tag.tag campaign.tags c.loop-tag.counts.items c.end_count.result (omega (arith, c.loop-tag-test.true, ap length c.as_slice-tag-end.ensures)) (c.end_count.ensures ∙ ap (λ bit. end_count campaign answers (Tag bit)) c.tag_bit.ensures)
    ∙ c.loop-tag.invariant

pub returns : goal.returns
returns c =
    let campaign = c.args.campaign.now in
    let answers = groups c.args.campaign.now c.args.state.now.rows in
    let none : drop c.loop-tag.tag campaign.tags ≡ [] = drop_all c.loop-tag.tag campaign.tags (omega (arith, c.loop-tag-test.false, ap length c.as_slice-tag-end.ensures)) in
    sym (append-nil c.loop-tag.counts.items) ∙ ap (λ names. c.loop-tag.counts.items ++ tag_counts campaign answers c.loop-tag.tag names) (sym none) ∙ c.loop-tag.invariant
