use Rattle.cell_meaning.proofs.Common.{◌≡◌, [], ◌∷◌, sym, subst, word_bits, Not, Neg, shape_of, HasWidths, HasValue}
use Rattle.cell_meaning.proofs.value.number_of_one.Goals as goal

pub returns-in-Not : goal.returns-in-Not
returns-in-Not c =
    let widths : c.args.a.width ≡ c.args.width = subst (λ k. HasWidths (shape_of k) (c.args.a.width ∷ c.args.width ∷ [])) c.in-Not.is c.requires in
    let value : HasValue c.not.result Not c.args.signed c.args.width (word_bits c.args.a ∷ []) = subst (λ w. HasValue c.not.result Not c.args.signed w (word_bits c.args.a ∷ [])) widths (c.not.ensures c.args.signed) in
    subst (λ k. HasValue c.not.result k c.args.signed c.args.width (word_bits c.args.a ∷ [])) (sym c.in-Not.is) value

pub returns-in-Neg : goal.returns-in-Neg
returns-in-Neg c =
    let widths : c.args.a.width ≡ c.args.width = subst (λ k. HasWidths (shape_of k) (c.args.a.width ∷ c.args.width ∷ [])) c.in-Neg.is c.requires in
    let value : HasValue c.neg.result Neg c.args.signed c.args.width (word_bits c.args.a ∷ []) = subst (λ w. HasValue c.neg.result Neg c.args.signed w (word_bits c.args.a ∷ [])) widths (c.neg.ensures c.args.signed) in
    subst (λ k. HasValue c.neg.result k c.args.signed c.args.width (word_bits c.args.a ∷ [])) (sym c.in-Neg.is) value
