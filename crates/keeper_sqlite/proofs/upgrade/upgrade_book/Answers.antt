use Rattle.keeper_sqlite.proofs.Common.{◌≡◌, inl, inr, arith, ap, Err, ◌∙◌, state, HasCleanDisk, Database}
use Rattle.keeper_sqlite.proofs.upgrade.upgrade_book.Goals as goal

pub returns-in-Err-clause-fault : goal.returns-in-Err-clause-fault
returns-in-Err-clause-fault g c clean is =
    let between = c.move_all.new.connection in
    let fault : c.probed.result ≡ Database = cc in
    let early : HasCleanDisk (state g.S.Store between) = omega (arith, c.probed.ensures.crash.clean) in
    elim (c.probed.ensures.fault clean fault) [
      | inl told ↦ inr (inr (inl (c.move_all.ensures.fault early (c.in-Err.is ∙ ap Err told))))
      | inr silent ↦ inr (inr (inr (between, silent)))
    ]
