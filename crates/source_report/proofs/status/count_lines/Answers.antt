use Rattle.source_report.proofs.Common.{◌++◌, ap, codes, string_bytes, ◌∙◌, groups, count_lines, number_line}
use Rattle.source_report.proofs.Lines.{joined}
use Rattle.source_report.proofs.status.count_lines.Goals as goal

pub returns : goal.returns
unfolding count_lines
returns c =
    ap (λ vec. vec.items) c.into_bytes.ensures.value
    ∙ joined (string_bytes c.new-text.result) (string_bytes c.add_number.new.text) (string_bytes c.add_number-2.new.text) (string_bytes c.add_tests.new.text) (string_bytes c.add_tags.new.text) (string_bytes c.add_number-3.new.text) (string_bytes c.add_number-4.new.text)
    _ _ _ _ _ _
    c.new-text.ensures.bytes
    (c.in_ok-add_number.ensures ∙ ap (λ n. string_bytes c.new-text.result ++ number_line (codes "Mutations") n) c.mutation_count.ensures.groups)
    (c.in_ok-add_number-2.ensures ∙ ap (λ n. string_bytes c.add_number.new.text ++ number_line (codes "Finished") n) c.finished_count.ensures)
    (c.in_ok-add_tests.ensures (groups c.args.campaign.now c.args.state.now.rows) (c.deref.ensures.value ∙ c.in_ok-reads.ensures))
    (c.in_ok-add_tags.ensures)
    (c.in_ok-add_number-3.ensures ∙ ap (λ n. string_bytes c.add_tags.new.text ++ number_line (codes "Asserts") n) c.end_count-asserts.ensures)
    (c.in_ok-add_number-4.ensures ∙ ap (λ n. string_bytes c.add_number-3.new.text ++ number_line (codes "Unexpected") n) c.end_count-unexpected.ensures)
