use Rattle.cycle_sim.proofs.Common.{ℕ, Bool, List, [], ◌∷◌, sym, subst, CellKind, shape_of, HasWidths, HasValue, wires_bits}
use Rattle.cycle_sim.proofs.Gates.{word-is}
use Rattle.cycle_sim.proofs.computing.of_three.Goals as goal

pub number_of_three-requires : goal.number_of_three-requires
number_of_three-requires c = subst (λ (l : List ℕ). HasWidths (shape_of c.args.gate.now.kind) l) (λ i. sym c.word_at-first.ensures.width i ∷ sym c.word_at-second.ensures.width i ∷ sym c.word_at-third.ensures.width i ∷ c.args.gate.now.width ∷ []) c.requires.shape

pub returns-in-Mux : goal.returns-in-Mux
returns-in-Mux c =
    let table = c.args.table.now in
    subst (λ (k : CellKind). HasValue c.selected.result k c.args.gate.now.is_signed c.args.gate.now.width (wires_bits table c.args.a.now ∷ wires_bits table c.args.b.now ∷ wires_bits table c.args.d.now ∷ [])) (sym c.in-Mux.is) (c.selected.ensures c.args.gate.now.is_signed c.args.gate.now.width)

pub returns-in_default : goal.returns-in_default
returns-in_default c =
    let table = c.args.table.now in
    let gate = c.args.gate.now in
    let first = word-is table c.args.a.now c.word_at-first.result c.word_at-first.ensures.width c.word_at-first.ensures.bits in
    let second = word-is table c.args.b.now c.word_at-second.result c.word_at-second.ensures.width c.word_at-second.ensures.bits in
    let third = word-is table c.args.d.now c.word_at-third.result c.word_at-third.ensures.width c.word_at-third.ensures.bits in
    subst (λ (l : List (List Bool)). HasValue c.number_of_three.result gate.kind gate.is_signed gate.width l) (λ i. first i ∷ second i ∷ third i ∷ []) c.number_of_three.ensures
