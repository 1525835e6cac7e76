use Rattle.elab_finish.proofs.Common.{◌≡◌, refl, subst, On, From, next_of, IsNext}
use Rattle.elab_finish.proofs.Searching.{walk_on, walk_ends, one_less}
use Rattle.elab_finish.proofs.search.Search.open.Goals as goal

pub returns-in-Some-clause-walked : goal.returns-in-Some-clause-walked
returns-in-Some-clause-walked c =
    let next = next_of c.args.builder.now in
    let marks = c.args.self.now.marks.items in
    let on : next_of c.args.builder.now c.args.net ≡ On c.in-Some.next = subst (IsNext (next_of c.args.builder.now c.args.net)) c.in-Some.is c.next_net.ensures in
    (walk_on next marks c.args.start c.args.net c.in-Some.next c.requires.walked c.requires.unknown c.requires.start on, one_less marks c.args.net (From c.args.start) c.requires.unknown refl (c.requires.walked.room c.args.net c.in-Some.next on))

pub returns-in-None-clause-walked : goal.returns-in-None-clause-walked
returns-in-None-clause-walked c =
    walk_ends (next_of c.args.builder.now) c.args.self.now.marks.items c.args.start c.args.net c.requires.walked c.requires.unknown (subst (IsNext (next_of c.args.builder.now c.args.net)) c.in-None.is c.next_net.ensures)
