use Rattle.cell_gates.proofs.Common.{List, map, sym, subst, ap, ◌∙◌, All, GateLit, count, IsLit, lits-negated}
use Rattle.gate_list.specs.Folding.{negated}
use Rattle.cell_gates.proofs.choices.kept.Goals as goal

pub row-requires-clause-b : goal.row-requires-clause-b
row-requires-clause-b c =
    subst (λ (l : List GateLit). All (IsLit (count c.shifted.new.gates)) l) (sym (c.deref-4.ensures.value ∙ c.in_ok-clear.ensures ∙ ap (λ (l : List GateLit). map negated l) c.deref-3.ensures.value))
    (lits-negated (count c.shifted.new.gates) c.in_ok-mask.mask.items c.in_ok-mask.ensures.adds.within)
