use Rattle.cell_meaning.proofs.Common.{[], ◌∷◌, sym, subst, word_bits, HasValue}
use Rattle.cell_meaning.proofs.value.number_of_two.Goals as goal

pub returns-in-Pick : goal.returns-in-Pick
returns-in-Pick c = subst (λ k. HasValue c.pick.result k c.args.signed c.args.width (word_bits c.args.a ∷ word_bits c.args.b ∷ [])) (sym c.in-Pick.is) (c.pick.ensures c.args.signed c.args.width)
