use Rattle.tb_settling.proofs.Common.{◌≡◌, ◌<◌, ℕ, List, map, length, sym, ap, ◌∙◌, subst, slice_index, All, length-map}
use Rattle.tb_settling.proofs.design.settle_design.Goals as goal

pub settle_with-requires-clause-inside : goal.settle_with-requires-clause-inside
settle_with-requires-clause-inside c =
    let long : length c.args.scene.now.widths ≡ length c.store.result.now = sym (ap (λ (l : List ℕ). length l) c.store.ensures.widths) ∙ length-map c.store.result.now (λ w. w.width) in
    subst (λ (n : ℕ). All (λ k. k < n) c.args.inputs.now) long c.requires.entered.known

pub settle_with-requires-clause-widths : goal.settle_with-requires-clause-widths
settle_with-requires-clause-widths c = ap (λ (l : List ℕ). map (slice_index l) c.args.inputs.now) c.store.ensures.widths ∙ c.requires.entered.widths_are
