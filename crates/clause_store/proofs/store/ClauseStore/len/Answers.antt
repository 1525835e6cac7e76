use Rattle.std.proofs.Common.{rules}
use Rattle.clause_store.proofs.Cuts.{cut_count}
use Rattle.clause_store.proofs.store.ClauseStore.len.Goals as goal

pub returns-clause-number : goal.returns-clause-number
returns-clause-number c = rw (← c.self.view_is, cut_count) (search rules)

pub returns-clause-small : goal.returns-clause-small
returns-clause-small c = rw (← c.self.view_is, cut_count) c.self.invariant.2
