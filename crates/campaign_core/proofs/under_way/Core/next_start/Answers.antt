use Rattle.campaign_core.proofs.Common.{sym, ap, ◌∙◌, option_map, start_of}
use Rattle.campaign_core.proofs.Nexts.{next_started}
use Rattle.campaign_core.proofs.under_way.Core.next_start.Goals as goal

pub returns-in_err-want : goal.returns-in_err-want
returns-in_err-want g c =
    c.from_residual-in_err-want.ensures
    ∙ sym (next_started _ c.args.self.now c.self.inside.waiting c.args.slot c.in_ok-mutation.mutation c.least.result c.of.result c.self.view_is c.self.invariant.wants_are c.least.ensures c.in_ok-mutation.was c.of.ensures ∙ ap (option_map (start_of c.args.slot c.in_ok-mutation.mutation)) c.in_err-want.was)

pub returns : goal.returns
returns g c =
    sym (next_started _ c.args.self.now c.self.inside.waiting c.args.slot c.in_ok-mutation.mutation c.least.result c.of.result c.self.view_is c.self.invariant.wants_are c.least.ensures c.in_ok-mutation.was c.of.ensures ∙ ap (option_map (start_of c.args.slot c.in_ok-mutation.mutation)) c.in_ok-want.was)
