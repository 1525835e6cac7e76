use Rattle.keeper_sqlite.proofs.Common.{◌≡◌, inl, inr, arith, ap, Err, ◌∙◌, state, HasCleanDisk, Database}
use Rattle.keeper_sqlite.proofs.begin.begin_book.Goals as goal

pub returns-in-Err-clause-fault : goal.returns-in-Err-clause-fault
returns-in-Err-clause-fault g c clean is =
    let between = c.write_lists.new.connection in
    let fault : c.probed.result ≡ Database = cc in
    let early : HasCleanDisk (state g.S.Store between) = omega (arith, c.probed.ensures.crash.clean) in
    elim (c.probed.ensures.fault clean fault) [
      | inl told ↦ inr (inl (c.write_lists.ensures.fault early (c.in-Err.is ∙ ap Err told)))
      | inr silent ↦ inr (inr (between, silent))
    ]
