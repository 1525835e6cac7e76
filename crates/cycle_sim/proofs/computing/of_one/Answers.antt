use Rattle.cycle_sim.proofs.Common.{ℕ, Bool, List, [], ◌∷◌, sym, subst, shape_of, HasWidths, HasValue}
use Rattle.cycle_sim.proofs.Gates.{word-is}
use Rattle.cycle_sim.proofs.computing.of_one.Goals as goal

pub number_of_one-requires : goal.number_of_one-requires
number_of_one-requires c = subst (λ (l : List ℕ). HasWidths (shape_of c.args.gate.now.kind) l) (λ i. sym c.word_at-first.ensures.width i ∷ c.args.gate.now.width ∷ []) c.requires.shape

pub returns-in_default : goal.returns-in_default
returns-in_default c =
    let gate = c.args.gate.now in
    let first = word-is c.args.table.now c.args.a.now c.word_at-first.result c.word_at-first.ensures.width c.word_at-first.ensures.bits in
    subst (λ (l : List (List Bool)). HasValue c.number_of_one.result gate.kind gate.is_signed gate.width l) (λ i. first i ∷ []) c.number_of_one.ensures
