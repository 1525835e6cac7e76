use Rattle.keeper_opening.proofs.Common.{subst, Book, IsBlank, begun, PlaceHolds}
use Rattle.keeper_opening.proofs.Opened.{either_after}
use Rattle.keeper_opening.proofs.opening.OpeningKeeperKeeper.begin.Goals as goal

pub begin-written-requires-clause-empty : goal.begin-written-requires-clause-empty
begin-written-requires-clause-empty g c = subst (λ p. (was : Book) → PlaceHolds g.S.Store p was → IsBlank was) c.in-Opened.is c.requires.empty

pub returns-clause-either : goal.returns-clause-either
returns-clause-either g c =
    either_after g.S.Store g.O.Opener.found c.args.self.now.place c.note_write.new.self.place c.in-Opened.keeper c.begin-written.new.self c.in-Opened.is c.note_write.ensures.place _ _ c.note_write.ensures.same (λ was. begun c.args.meta.now c.args.mutations.now) c.begin-written.ensures.either
