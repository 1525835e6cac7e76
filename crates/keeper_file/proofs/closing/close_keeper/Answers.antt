use Rattle.std.proofs.Common.{sym, ◌∙◌}
use Rattle.keeper_file.proofs.Reopened.{closed_again}
use Rattle.keeper_file.proofs.closing.close_keeper.Goals as goal

pub returns-in-Ok-clause-again : goal.returns-in-Ok-clause-again
returns-in-Ok-clause-again g c clean =
    closed_again g.met.D.Disk.seen_may_stay g.O.Opener.found c.args.keeper.place c.in-Some.connection (sym c.into_connection.ensures ∙ c.in-Some.is) c.in-Ok.files (c.in-Ok.ensures.copied clean)

pub returns-in-Err-clause-cause : goal.returns-in-Err-clause-cause
returns-in-Err-clause-cause g c = (c.in-Some.connection, sym c.into_connection.ensures ∙ c.in-Some.is, _, c.in-Err.ensures.err.0, c.in-Err.ensures.err.1)
