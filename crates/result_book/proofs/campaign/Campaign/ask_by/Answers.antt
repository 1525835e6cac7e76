use Rattle.result_book.proofs.Common.{ap, ◌∙◌, ℕ, List, script_outcome, told, ask_by, filled}
use Rattle.result_book.proofs.Asking.{among_filled}
use Rattle.result_book.proofs.campaign.Campaign.ask_by.Goals as goal

pub returns : goal.returns
unfolding ask_by
returns c =
    let words = c.args.results.now in
    c.ask.ensures.told (filled words) (among_filled words) ∙ ap (λ (expect : List ℕ). told words (script_outcome expect (filled words) c.args.self.now.script)) c.as_slice.ensures
