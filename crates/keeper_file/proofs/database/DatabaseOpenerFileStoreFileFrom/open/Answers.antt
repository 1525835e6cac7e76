use Rattle.keeper_file.proofs.database.DatabaseOpenerFileStoreFileFrom.open.Goals as goal

pub returns-in-Ok-clause-found : goal.returns-in-Ok-clause-found
returns-in-Ok-clause-found g c clean =
    let found = c.in-Ok.ensures.found clean in
    ((c.in-Ok.ensures.opened clean).0.is_open, record { holds = found.holds; reads = found.reads })
