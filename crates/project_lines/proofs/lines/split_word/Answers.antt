use Rattle.project_lines.proofs.Common.{◌≡◌, rules, tests, take, drop, ap, ◌∙◌, subst, sym, IsCharBoundary, prefix_len, YieldsList-from_slice, count_from_yields_List, YieldsList-from_take_while}
use Rattle.project_lines.proofs.Common.{length-prefix_len, behind_word, front_word, is_of_word}
use Rattle.project_lines.proofs.Texts.{boundary-word}
use Rattle.project_lines.proofs.lines.split_word.Goals as goal

pub split_at-requires : goal.split_at-requires
split_at-requires c =
    let text = c.args.text.now in
    let count : c.count-len.result ≡ prefix_len is_of_word text = count_from_yields_List c.take_while.result c.count-len.result c.count-len.ensures.ran (YieldsList-from_take_while _ is_of_word (YieldsList-from_slice text cc) c.take_while.ensures.closure c.take_while.ensures.done (λ x b q k. search (rules, tests))) ∙ length-prefix_len is_of_word text in
    subst (IsCharBoundary text) (sym count) (boundary-word text)

pub returns-clause-word : goal.returns-clause-word
unfolding front_word
returns-clause-word c =
    let text = c.args.text.now in
    let count : c.count-len.result ≡ prefix_len is_of_word text = count_from_yields_List c.take_while.result c.count-len.result c.count-len.ensures.ran (YieldsList-from_take_while _ is_of_word (YieldsList-from_slice text cc) c.take_while.ensures.closure c.take_while.ensures.done (λ x b q k. search (rules, tests))) ∙ length-prefix_len is_of_word text in
    c.split_at.ensures.front ∙ ap (λ n. take n text) count

pub returns-clause-behind : goal.returns-clause-behind
unfolding behind_word
returns-clause-behind c =
    let text = c.args.text.now in
    let count : c.count-len.result ≡ prefix_len is_of_word text = count_from_yields_List c.take_while.result c.count-len.result c.count-len.ensures.ran (YieldsList-from_take_while _ is_of_word (YieldsList-from_slice text cc) c.take_while.ensures.closure c.take_while.ensures.done (λ x b q k. search (rules, tests))) ∙ length-prefix_len is_of_word text in
    c.split_at.ensures.back ∙ ap (λ n. drop n text) count
