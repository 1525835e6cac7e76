use Rattle.tb_formulas.proofs.Common.{◌+◌, ◌*◌, names_of}
use Rattle.tb_formulas.proofs.Making.{Goes}
use Rattle.tb_formulas.proofs.building.+formula.Given as goal

abbrev pub decreases-formula_at : goal.decreases-formula_at
decreases-formula_at l = 5 * goal.size-formula_at l

abbrev pub decreases-boxed : goal.decreases-boxed
decreases-boxed l = 5 * goal.size-boxed l + 1

abbrev pub decreases-own_boxed : goal.decreases-own_boxed
decreases-own_boxed l = 5 * goal.size-own_boxed l + 2

abbrev pub decreases-selected : goal.decreases-selected
decreases-selected l = 5 * goal.size-selected l + 3

abbrev pub decreases-joined : goal.decreases-joined
decreases-joined l = 5 * goal.size-joined l + 2

abbrev pub decreases-repeated : goal.decreases-repeated
decreases-repeated l = 5 * goal.size-repeated l + 3

abbrev pub decreases-called : goal.decreases-called
decreases-called l = 5 * goal.size-called l + 4

abbrev pub decreases-called_with : goal.decreases-called_with
decreases-called_with l = 5 * goal.size-called_with l + 3

abbrev pub invariant-joined-loop-part : goal.invariant-joined-loop-part
invariant-joined-loop-part l = Goes (names_of l.scope) l.parts l.part-index l.made
