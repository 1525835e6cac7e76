use Rattle.made_campaign.proofs.Common.{◌≡◌, ◌∙◌, subst, arith, false, Option, Some, IfOk, IfErr, Held, Prepared, IsMade, IsUnmade, made_held, made_limit}
use Rattle.std.proofs.lemmas.Result.{IfOk-weaker}
use Rattle.made_campaign.proofs.Refusing.{fixed_made, held_of, limit_made, texts_of}
use Rattle.made_campaign.proofs.making.made_campaign.Goals as goal

pub returns-clause-made : goal.returns-clause-made
returns-clause-made c =
    subst (λ (h : Option Held). IfOk c.read_campaign.result (IsMade h)) (held_of c.args.seed c.args.cells c.new.result (c.new.ensures ∙ c.in_ok-files.ensures)) c.read_campaign.ensures.made

pub returns-clause-limit : goal.returns-clause-limit
returns-clause-limit c =
    IfOk-weaker c.read_campaign.result (IsMade (Some (made_held c.args.seed c.args.cells))) (λ (p : Prepared). p.campaign.conflicts ≡ made_limit) (λ p made. limit_made c.args.seed c.args.cells (omega (arith, c.ranges.seed.fits)) c.requires p made)
    (subst (λ (h : Option Held). IfOk c.read_campaign.result (IsMade h)) (held_of c.args.seed c.args.cells c.new.result (c.new.ensures ∙ c.in_ok-files.ensures)) c.read_campaign.ensures.made)

pub returns-clause-fixed : goal.returns-clause-fixed
returns-clause-fixed c =
    IfOk-weaker c.read_campaign.result (IsMade (Some (made_held c.args.seed c.args.cells))) (λ (p : Prepared). p.auto_cycles ≡ false) (λ p made. fixed_made c.args.seed c.args.cells (omega (arith, c.ranges.seed.fits)) c.requires p made)
    (subst (λ (h : Option Held). IfOk c.read_campaign.result (IsMade h)) (held_of c.args.seed c.args.cells c.new.result (c.new.ensures ∙ c.in_ok-files.ensures)) c.read_campaign.ensures.made)

pub returns-clause-refused : goal.returns-clause-refused
returns-clause-refused c =
    subst (λ (h : Option Held). IfErr c.read_campaign.result (IsUnmade h)) (held_of c.args.seed c.args.cells c.new.result (c.new.ensures ∙ c.in_ok-files.ensures)) c.read_campaign.ensures.refused

pub returns-clause-texts : goal.returns-clause-texts
returns-clause-texts c =
    texts_of c.args.seed c.args.cells (omega (arith, c.ranges.seed.fits)) c.requires c.read_campaign.result
    (subst (λ (h : Option Held). IfErr c.read_campaign.result (IsUnmade h)) (held_of c.args.seed c.args.cells c.new.result (c.new.ensures ∙ c.in_ok-files.ensures)) c.read_campaign.ensures.refused) c.read_campaign.ensures.cause
