use Rattle.keeper_opening.proofs.Common.{rules, ◌≡◌, ◌∙◌, None, ap, option_or, connection_of, noted_cause, Leaves}
use Rattle.keeper_opening.proofs.Answered.{answers_after, noted_after, unanswered_after}
use Rattle.keeper_opening.proofs.Opened.{allowed_before, refused_before, told_before}
use Rattle.keeper_opening.proofs.opening.OpeningKeeperKeeper.load.Goals as goal

pub returns-in-Err-clause-connected : goal.returns-in-Err-clause-connected
returns-in-Err-clause-connected g c = unanswered_after g.O.Opener.gives c.args.self.now.place (connection_of c.replace-place.new.dest)
    (λ fault. c.args.self.now.fault ≡ option_or c.args.self.now.fault None) (ap connection_of c.replace-place.ensures.after ∙ c.adopt.ensures.connection) (search rules)

pub returns-clause-connected : goal.returns-clause-connected
returns-clause-connected g c =
    answers_after g.O.Opener.gives c.args.self.now.place c.in-Ok.opened.0.connection c.load-loaded.new.self.connection
    (λ fault. c.in-Ok.opened.1 ≡ fault) (λ fault. c.or-self.result ≡ option_or c.args.self.now.fault (noted_cause c.load-loaded.result fault))
    c.load-loaded.ensures.connected (noted_after _ _ _ _ _ c.or-self.ensures c.noted_cause.ensures) (search rules)

pub returns-clause-tells : goal.returns-clause-tells
returns-clause-tells g c clean =
    told_before g.S.Store g.O.Opener.found c.args.self.now.place c.in-Ok.opened.0 (search rules) (c.load-loaded.ensures.tells clean)

pub returns-clause-allowed : goal.returns-clause-allowed
returns-clause-allowed g c clean =
    allowed_before g.S.Store (λ h trees is_open left. g.met.S.Store.settled h.store trees is_open left) g.O.Opener.found c.args.self.now.place c.in-Ok.opened.0 (search rules) (c.load-loaded.ensures.tells clean) c.load-loaded.result (c.load-loaded.ensures.allowed clean)

pub returns-clause-refused : goal.returns-clause-refused
returns-clause-refused g c clean =
    refused_before g.S.Store (λ h trees is_open left. g.met.S.Store.settled h.store trees is_open left) g.O.Opener.found c.args.self.now.place c.in-Ok.opened.0 (search rules) (c.load-loaded.ensures.tells clean) (Leaves g.S.Store c.load-loaded.new.self.connection) c.load-loaded.result (c.load-loaded.ensures.refused clean)
