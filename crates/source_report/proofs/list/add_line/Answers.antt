use Rattle.source_report.proofs.Common.{◌≡◌, ◌++◌, ◌+◌, [], List, ℕ, length, codes, decimal, ap, sym, ◌∙◌, Some, slice_get, subst, ◌<◌, arith, All, on_ok_weaker, Ask, Answer, ask, answers_of, ask_on}
use Rattle.source_report.proofs.Common.{read_on, read_asks, read_below, asks-at, length-asks, answers_text, end_text}
use Rattle.source_report.proofs.Lines.{joined_behind}
use Rattle.source_report.proofs.list.add_line.Goals as goal

pub ask_of-requires : goal.ask_of-requires
ask_of-requires c = omega (arith, length-asks c.args.campaign.now c.args.state.now.rows c.args.state.now c.requires.state, c.requires.mutation)

pub returns : goal.returns
returns c =
    let campaign = c.args.campaign.now in
    let names : List (List ℕ) = campaign.test_names in
    let answers = read_on campaign c.args.mutation c.args.state.now.rows in
    let found : slice_get c.args.state.now.asks c.args.mutation ≡ Some (ask_on campaign c.args.mutation c.args.state.now.rows) = asks-at campaign c.args.state.now.rows c.args.state.now c.args.mutation c.requires.state c.requires.mutation in
    let same : Some c.ask_of.result ≡ Some (ask_on campaign c.args.mutation c.args.state.now.rows) = sym c.ask_of.ensures ∙ found in
    let stands : c.ask_of.result ≡ ask_on campaign c.args.mutation c.args.state.now.rows = cc in
    let is : c.ask_of.result ≡ ask campaign answers = stands ∙ sym (read_asks campaign (answers_of c.args.mutation c.args.state.now.rows) c.requires.fit) in
    let told : c.add_answers.new.text.items ≡ c.add-3.new.text.items ++ answers_text [] names answers = c.in_ok-add_answers.ensures ∙ ap (λ (l : List Answer). c.add-3.new.text.items ++ answers_text [] names l) (c.deref.ensures.value ∙ c.in_ok-answers.ensures) in
    let ended : c.add_end.new.text.items ≡ c.add-4.new.text.items ++ end_text campaign.tags (ask campaign answers) = c.in_ok-add_end.ensures ∙ ap (λ (a : Ask). c.add-4.new.text.items ++ end_text campaign.tags a) is in
    on_ok_weaker c.add-5.result (λ last. joined_behind c.args.text.now.items c.add.new.text.items c.add-2.new.text.items c.add-3.new.text.items c.add_answers.new.text.items c.add-4.new.text.items c.add_end.new.text.items c.add-5.new.text.items
    (decimal (c.args.mutation + 1) ++ codes ": ") c.args.site.now (codes " [") (answers_text [] names answers) (codes "]") (end_text campaign.tags (ask campaign answers)) (codes "\n")
    (c.in_ok-add.ensures ∙ ap (λ head. c.args.text.now.items ++ head) (c.as_bytes.ensures.value ∙ c.in_ok-head.ensures.ok)) c.in_ok-add-2.ensures c.in_ok-add-3.ensures told c.in_ok-add-4.ensures ended last) c.add-5.ensures

pub add_answers-requires : goal.add_answers-requires
add_answers-requires c =
    let campaign = c.args.campaign.now in
    let answers = read_on campaign c.args.mutation c.args.state.now.rows in
    let below = read_below campaign (answers_of c.args.mutation c.args.state.now.rows) c.requires.fit in
    subst (λ (l : List Answer). All (λ answer. answer.test < length campaign.test_names) l) (sym (c.deref.ensures.value ∙ c.in_ok-answers.ensures))
    (subst (λ (n : ℕ). All (λ (answer : Answer). answer.test < n) answers) (sym c.requires.fit.names) below)
