use Rattle.keeper_opening.proofs.Common.{with_entry}
use Rattle.keeper_opening.proofs.Opened.{either_after}
use Rattle.keeper_opening.proofs.opening.OpeningKeeperKeeper.append.Goals as goal

pub returns-clause-either : goal.returns-clause-either
returns-clause-either g c =
    either_after g.S.Store g.O.Opener.found c.args.self.now.place c.note_write.new.self.place c.in-Opened.keeper c.append-written.new.self c.in-Opened.is c.note_write.ensures.place _ _ c.note_write.ensures.same (λ was. with_entry was c.args.entry.now) c.append-written.ensures.either
