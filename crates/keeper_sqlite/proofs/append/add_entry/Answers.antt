use Rattle.keeper_sqlite.proofs.Common.{◌≡◌, inl, inr, arith, sym, ◌∙◌, state, HasCleanDisk, Database}
use Rattle.keeper_sqlite.proofs.append.add_entry.Goals as goal

pub returns-in-Err-clause-fault : goal.returns-in-Err-clause-fault
returns-in-Err-clause-fault g c clean is =
    let between = c.insert_entry.new.connection in
    let fault : c.probed.result ≡ Database = cc in
    let early : HasCleanDisk (state g.S.Store between) = omega (arith, c.probed.ensures.crash.clean) in
    elim (c.probed.ensures.fault clean fault) [
      | inl told ↦ inr (between, inl (c.in-Err.error, c.in-Err.ensures.told early, sym c.into.ensures ∙ told))
      | inr silent ↦ inr (between, inr silent)
    ]
