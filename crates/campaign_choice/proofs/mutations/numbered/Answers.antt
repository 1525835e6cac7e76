use Rattle.campaign_choice.proofs.Common.{ℕ, ◌<◌, List, [], ◌∷◌, ◌++◌, length, get_or, slice_get, take, sym, ap, ◌∙◌, filter_map, take_more, filter_map-append, Site}
use Rattle.campaign_choice.proofs.mutations.numbered.Goals as goal

pub loop-number-preserved : goal.loop-number-preserved
loop-number-preserved c =
    let numbers : List ℕ = c.args.numbers.now in
    let i : ℕ = c.loop-number.number-index in
    let below : i < length numbers = c.loop-number-test.true in
    c.in_ok-add_numbered.ensures
    ∙ ap (λ (list : List Site). list ++ filter_map (slice_get c.args.all.now) (get_or numbers i 0 ∷ [])) c.loop-number.invariant
    ∙ sym (ap (filter_map (slice_get c.args.all.now)) (take_more numbers i 0 below) ∙ filter_map-append (slice_get c.args.all.now) (take i numbers) (get_or numbers i 0 ∷ []))
