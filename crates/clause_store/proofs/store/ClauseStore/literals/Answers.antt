use Rattle.std.proofs.Common.{arith}
use Rattle.clause_store.proofs.Cuts.{cut_sum}
use Rattle.clause_store.proofs.store.ClauseStore.literals.Goals as goal

pub returns-clause-number : goal.returns-clause-number
returns-clause-number c = rw (← c.self.view_is) (omega (arith, cut_sum 0 c.self.inside.ends.items c.self.inside.literals.items c.self.invariant.0, c.len.ensures))

pub returns-clause-small : goal.returns-clause-small
returns-clause-small c = rw (← c.self.view_is) (omega (arith, cut_sum 0 c.self.inside.ends.items c.self.inside.literals.items c.self.invariant.0, c.self.invariant.1))
