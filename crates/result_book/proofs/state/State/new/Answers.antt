use Rattle.result_book.proofs.Common.{◌≡◌, [], length, sym, ◌∙◌, ap, bounds_on, ask_by, words_of}
use Rattle.result_book.proofs.Grouping.{bounds_on-none}
use Rattle.result_book.proofs.Words.{words_of-none}
use Rattle.result_book.proofs.StateLemmas.{state_begun}
use Rattle.result_book.proofs.state.State.new.Goals as goal

pub returns : goal.returns
returns c =
    let words : c.empty-none.result ≡ words_of [] = c.empty-none.ensures ∙ sym words_of-none in
    let bounds : c.empty.result ≡ bounds_on 0 [] = c.empty.ensures ∙ sym (bounds_on-none 0) in
    state_begun c.args.campaign.now _ _ _ _ _ words bounds (c.ask_by.ensures ∙ ap (ask_by c.args.campaign.now) words) c.new.ensures.items (c.in_ok-vec.ensures.items_if_clones_equal (λ y e. e)) (c.in_ok-vec-2.ensures.items_if_clones_equal (λ y e. e))
    (c.in_ok-vec-3.ensures.items_if_clones_equal (λ y e. e)) (ap length c.as_slice-count.ensures)
