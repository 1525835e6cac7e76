use Rattle.project_lines.proofs.Common.{◌≡◌, rules, tests, drop, ap, ◌∙◌, subst, sym, IsCharBoundary, prefix_len, YieldsList-from_slice, count_from_yields_List, YieldsList-from_take_while}
use Rattle.project_lines.proofs.Common.{length-prefix_len, from_word, is_blank}
use Rattle.project_lines.proofs.Texts.{boundary-from_word}
use Rattle.project_lines.proofs.lines.from_word.Goals as goal

pub split_at-requires : goal.split_at-requires
split_at-requires c =
    let text = c.args.text.now in
    let count : c.count-blanks.result ≡ prefix_len is_blank text = count_from_yields_List c.take_while.result c.count-blanks.result c.count-blanks.ensures.ran (YieldsList-from_take_while _ is_blank (YieldsList-from_slice text cc) c.take_while.ensures.closure c.take_while.ensures.done (λ x b q k. search (rules, tests))) ∙ length-prefix_len is_blank text in
    subst (IsCharBoundary text) (sym count) (boundary-from_word text c.utf8.text)

pub returns-clause-value : goal.returns-clause-value
unfolding from_word
returns-clause-value c =
    let text = c.args.text.now in
    let count : c.count-blanks.result ≡ prefix_len is_blank text = count_from_yields_List c.take_while.result c.count-blanks.result c.count-blanks.ensures.ran (YieldsList-from_take_while _ is_blank (YieldsList-from_slice text cc) c.take_while.ensures.closure c.take_while.ensures.done (λ x b q k. search (rules, tests))) ∙ length-prefix_len is_blank text in
    c.split_at.ensures.back ∙ ap (λ n. drop n text) count
