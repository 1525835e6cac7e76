use Rattle.keeper_sqlite.proofs.Common.{arith, inr, state, HasCleanDisk}
use Rattle.keeper_sqlite.proofs.read.read_rows.Goals as goal

pub returns-clause-fault : goal.returns-clause-fault
returns-clause-fault g c clean fault =
    let mid = c.expect_no_entry.new.connection in
    let early : HasCleanDisk (state g.S.Store mid) = omega (arith, c.read_entries.ensures.crash.clean) in
    inr (mid, λ _. c.in_ok-expect_no_entry.ensures.same early, c.read_entries.ensures.fault clean fault)
