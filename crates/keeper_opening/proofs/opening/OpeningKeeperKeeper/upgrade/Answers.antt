use Rattle.keeper_opening.proofs.Common.{◌≡◌, length, subst, Book, IsFirst, upgraded, PlaceHolds}
use Rattle.keeper_opening.proofs.Opened.{either_after}
use Rattle.keeper_opening.proofs.opening.OpeningKeeperKeeper.upgrade.Goals as goal

pub upgrade-written-requires-clause-first : goal.upgrade-written-requires-clause-first
upgrade-written-requires-clause-first g c = subst (λ p. (was : Book) → PlaceHolds g.S.Store p was → IsFirst was) c.in-Opened.is c.requires.first

pub upgrade-written-requires-clause-bounds : goal.upgrade-written-requires-clause-bounds
upgrade-written-requires-clause-bounds g c =
    subst (λ p. (was : Book) → PlaceHolds g.S.Store p was → length c.args.bounds.now ≡ length was.journal) c.in-Opened.is c.requires.bounds

pub returns-clause-either : goal.returns-clause-either
returns-clause-either g c =
    either_after g.S.Store g.O.Opener.found c.args.self.now.place c.note_write.new.self.place c.in-Opened.keeper c.upgrade-written.new.self c.in-Opened.is c.note_write.ensures.place _ _ c.note_write.ensures.same (λ was. upgraded c.args.bounds.now was) c.upgrade-written.ensures.either
