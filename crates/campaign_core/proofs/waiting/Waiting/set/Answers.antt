use Rattle.campaign_core.proofs.Common.{◌*◌, ◌+◌, ◌/◌, List, Option, length, ap, subst, arith, Want, IsLead, block_size}
use Rattle.campaign_core.proofs.WaitLemmas.{leads_set}
use Rattle.campaign_core.proofs.waiting.Waiting.set.Goals as goal

pub invariant_of-self : goal.invariant_of-self
invariant_of-self c =
    let m = c.args.mutation in
    leads_set c.self.inside.wants.items c.self.inside.leads.items c.args.mutation c.args.want c.block_lead.result c.self.invariant (let long = ap length c.self.view_is in omega (arith, long, c.requires))
    (subst (λ (l : List (Option Want)). IsLead l (block_size * (c.args.mutation / 128)) (block_size * (c.args.mutation / 128) + block_size) c.block_lead.result) c.deref.ensures.value c.block_lead.ensures)
