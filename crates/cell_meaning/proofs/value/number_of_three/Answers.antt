use Rattle.cell_meaning.proofs.Common.{◌≡◌, [], ◌∷◌, sym, subst, word_bits, Put, shape_of, HasWidths, HasValue}
use Rattle.cell_meaning.proofs.value.number_of_three.Goals as goal

pub returns-in-Mux : goal.returns-in-Mux
returns-in-Mux c = subst (λ k. HasValue c.mux.result k c.args.signed c.args.width (word_bits c.args.a ∷ word_bits c.args.b ∷ word_bits c.args.d ∷ [])) (sym c.in-Mux.is) (c.mux.ensures c.args.signed c.args.width)

pub returns-in-Put : goal.returns-in-Put
returns-in-Put c =
    let widths : c.args.a.width ≡ c.args.width = subst (λ k. HasWidths (shape_of k) (c.args.a.width ∷ c.args.b.width ∷ c.args.d.width ∷ c.args.width ∷ [])) c.in-Put.is c.requires in
    let value : HasValue c.put.result Put c.args.signed c.args.width (word_bits c.args.a ∷ word_bits c.args.b ∷ word_bits c.args.d ∷ []) = subst (λ w. HasValue c.put.result Put c.args.signed w (word_bits c.args.a ∷ word_bits c.args.b ∷ word_bits c.args.d ∷ [])) widths (c.put.ensures c.args.signed) in
    subst (λ k. HasValue c.put.result k c.args.signed c.args.width (word_bits c.args.a ∷ word_bits c.args.b ∷ word_bits c.args.d ∷ [])) (sym c.in-Put.is) value
