use Rattle.source_report.proofs.Common.{ℕ, ◌+◌, List, ◌++◌, length, drop, string_bytes, ap, ◌∙◌, arith, groups, Tag, end_count, tag_lines}
use Rattle.source_report.proofs.Lines.{tag_lines-more}
use Rattle.source_report.proofs.status.add_tags.Goals as goal

pub loop-tag-preserved : goal.loop-tag-preserved
loop-tag-preserved c =
    let answers = groups c.args.campaign.now c.args.state.now.rows in
    let names : List (List ℕ) = c.args.campaign.now.tags in
    ap (λ text. text ++ tag_lines c.args.campaign.now answers (c.loop-tag.tag + 1) (drop (c.loop-tag.tag + 1) names)) (c.in_ok-add_tag.ensures)
    ∙ tag_lines-more c.args.campaign.now answers c.loop-tag.tag names c.as_str.result.now (string_bytes c.loop-tag.text) c.end_count-count.result (omega (arith, ap length c.as_slice-name-items.ensures)) (cc) (c.end_count-count.ensures ∙ ap (λ bit. end_count c.args.campaign.now answers (Tag bit)) c.tag_bit.ensures)
    ∙ c.loop-tag.invariant
