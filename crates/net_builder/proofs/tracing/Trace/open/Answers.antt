use Rattle.net_builder.proofs.Common.{ℕ, List, [], ◌∷◌, ◌++◌, sym, ◌∙◌, subst, refl, Fixed, Net, Open, stays, fixed, Known, known_of, IsTraced, Comes}
use Rattle.net_builder.proofs.Marking.{marked, traced_end, traced_on, set_unknowns, unknown_inside}
use Rattle.net_builder.proofs.tracing.Trace.open.Goals as goal

pub returns-in-Stays-clause-traced : goal.returns-in-Stays-clause-traced
returns-in-Stays-clause-traced c =
    let here = unknown_inside c.args.self.now.marks.items c.args.net c.requires.unknown in
    traced_end (known_of c.args.self.now) c.args.net c.requires.traced here (Net c.args.net) (stays c.args.net (sym c.of.ensures ∙ c.in-Stays.is))

pub returns-in-Constant-clause-traced : goal.returns-in-Constant-clause-traced
returns-in-Constant-clause-traced c =
    let here = unknown_inside c.args.self.now.marks.items c.args.net c.requires.unknown in
    traced_end (known_of c.args.self.now) c.args.net c.requires.traced here (Fixed c.in-Constant.value) (fixed c.args.net c.in-Constant.value (sym c.of.ensures ∙ c.in-Constant.is))

pub returns-in_ok-push-in-On-clause-traced : goal.returns-in_ok-push-in-On-clause-traced
returns-in_ok-push-in-On-clause-traced c =
    let t : Known = known_of c.args.self.now in
    let here = unknown_inside t.marks c.args.net c.requires.unknown in
    let on : IsTraced (marked t c.args.net Open (t.path ++ c.args.net ∷ [])) (Comes t c.in-On.next) = traced_on t c.args.net c.requires.traced here c.in-On.next (sym c.of.ensures ∙ c.in-On.is) in
    (subst (λ (path : List ℕ). IsTraced (marked t c.args.net Open path) (Comes t c.in-On.next)) (sym c.in_ok-push-in-On.ensures.items) on, set_unknowns t.marks c.args.net Open here c.requires.unknown refl)
