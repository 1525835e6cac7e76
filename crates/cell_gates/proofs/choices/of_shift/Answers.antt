use Rattle.cell_gates.proofs.Common.{sym, subst, GateLit, count, IsLit}
use Rattle.cell_gates.proofs.CellNumbers.{top-within}
use Rattle.cell_gates.proofs.choices.of_shift.Goals as goal

pub shifted-requires-in-Sshr-clause-fill : goal.shifted-requires-in-Sshr-clause-fill
shifted-requires-in-Sshr-clause-fill c = subst (λ (x : GateLit). IsLit (count c.args.gates.now) x) (sym c.top_lit.ensures) (top-within (count c.args.gates.now) c.args.a.now c.requires.a)
