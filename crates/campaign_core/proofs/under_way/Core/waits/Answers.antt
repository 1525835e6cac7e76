use Rattle.campaign_core.proofs.Common.{sym, ◌∙◌}
use Rattle.campaign_core.proofs.Nexts.{kept_waiting, told_waits, waits_told}
use Rattle.campaign_core.proofs.WaitLemmas.{want_told}
use Rattle.campaign_core.proofs.under_way.Core.waits.Goals as goal

pub returns : goal.returns
returns g c =
    let are = kept_waiting _ c.args.self.now c.self.inside.waiting c.self.view_is c.self.invariant.wants_are in
    let tells = want_told c.eq.result c.of.result c.args.want c.eq.ensures in
    (λ is. told_waits c.args.self.now c.self.inside.waiting are c.args.mutation c.args.want (sym c.of.ensures ∙ tells.0 is), λ waits. tells.1 (c.of.ensures ∙ waits_told c.args.self.now c.self.inside.waiting are c.args.mutation c.args.want waits.0 waits.1))
