use Rattle.source_report.proofs.Common.{◌≡◌, ◌<◌, ◌+◌, ◌-◌, ◌++◌, [], length, drop, ap, sym, ◌∙◌, append-nil, arith, drop_all, groups_from, list_lines, list_text}
use Rattle.source_report.proofs.Lines.{list_lines-more}
use Rattle.source_report.proofs.list.list_text.Goals as goal

pub loop-number-preserved : goal.loop-number-preserved
loop-number-preserved c =
    let campaign = c.args.campaign.now in
    let rows = c.args.state.now.rows in
    let inside : c.loop-number.number < length campaign.mutations = (let same = ap length c.as_slice-sites.ensures in omega (arith, same, c.loop-number-test.true)) in
    ap (λ text. text ++ list_lines campaign (c.loop-number.number + 1) (drop (c.loop-number.number + 1) campaign.mutations) (groups_from campaign (c.loop-number.number + 1) (length campaign.mutations - (c.loop-number.number + 1)) rows)) c.in_ok-add_line.ensures
    ∙ list_lines-more campaign c.loop-number.number campaign.mutations c.as_slice.result.now c.loop-number.text.items rows inside (cc)
    ∙ c.loop-number.invariant

pub returns : goal.returns
unfolding list_text
returns c =
    let campaign = c.args.campaign.now in
    let none : drop c.loop-number.number campaign.mutations ≡ [] = (let same = ap length c.as_slice-sites.ensures in drop_all c.loop-number.number campaign.mutations (omega (arith, same, c.loop-number-test.false))) in
    c.from_vec.ensures ∙ sym (append-nil c.loop-number.text.items) ∙ ap (λ sites. c.loop-number.text.items ++ list_lines campaign c.loop-number.number sites (groups_from campaign c.loop-number.number (length campaign.mutations - c.loop-number.number) c.args.state.now.rows)) (sym none) ∙ c.loop-number.invariant
