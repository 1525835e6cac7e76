use Rattle.source_report.proofs.Common.{◌≡◌, ◌++◌, [], length, drop, ap, sym, ◌∙◌, append-nil, arith, drop_all, groups, file_texts, source_text}
use Rattle.source_report.proofs.Lines.{file_texts-more}
use Rattle.source_report.proofs.source.source_text.Goals as goal

pub loop-number-preserved : goal.loop-number-preserved
loop-number-preserved c =
    let campaign = c.args.campaign.now in
    let answers = groups c.args.campaign.now c.args.state.now.rows in
    file_texts-more campaign answers c.loop-number.number c.args.files.now c.file-item.result c.loop-number.text.items c.add_file.new.text.items
    (let same = ap length c.as_slice-file-items.ensures in omega (arith, same, c.loop-number-test.true)) (cc) c.in_ok-add_file.ensures
    ∙ c.loop-number.invariant

pub returns : goal.returns
unfolding source_text
returns c =
    let campaign = c.args.campaign.now in
    let answers = groups c.args.campaign.now c.args.state.now.rows in
    let none : drop c.loop-number.number c.args.files.now ≡ [] = (let same = ap length c.as_slice-file-items.ensures in drop_all c.loop-number.number c.args.files.now (omega (arith, same, c.loop-number-test.false))) in
    c.from_vec.ensures ∙ sym (append-nil c.loop-number.text.items) ∙ ap (λ files. c.loop-number.text.items ++ file_texts campaign answers c.loop-number.number files) (sym none) ∙ c.loop-number.invariant
