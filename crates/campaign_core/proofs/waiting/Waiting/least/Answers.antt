use Rattle.campaign_core.proofs.Common.{List, Option, None, ℕ, subst, sym, ◌∙◌, arith, Want, AreLeads}
use Rattle.campaign_core.proofs.WaitLemmas.{least_found, none_at_all, none_more}
use Rattle.campaign_core.proofs.waiting.Waiting.least.Goals as goal

pub loop-lead-init : goal.loop-lead-init
loop-lead-init c k low high = absurd (omega (arith, high))

pub returns-then-is_some : goal.returns-then-is_some
returns-then-is_some c =
    let leads : List (Option ℕ) = c.deref-lead-items.result.now in
    let are : AreLeads c.args.self.now leads = subst (λ (l : List (Option ℕ)). AreLeads c.args.self.now l) (sym c.deref-lead-items.ensures.value) (subst (λ (w : List (Option Want)). AreLeads w c.self.inside.leads.items) c.self.view_is c.self.invariant) in
    least_found c.args.self.now leads c.loop-lead.lead-index None are c.loop-lead-test.true c.loop-lead.invariant (sym c.is_some.ensures ∙ c.if-is_some.true)

pub loop-lead-preserved : goal.loop-lead-preserved
loop-lead-preserved c =
    let leads : List (Option ℕ) = c.deref-lead-items.result.now in
    let are : AreLeads c.args.self.now leads = subst (λ (l : List (Option ℕ)). AreLeads c.args.self.now l) (sym c.deref-lead-items.ensures.value) (subst (λ (w : List (Option Want)). AreLeads w c.self.inside.leads.items) c.self.view_is c.self.invariant) in
    none_more c.args.self.now leads c.loop-lead.lead-index None are c.loop-lead-test.true c.loop-lead.invariant (sym c.is_some.ensures ∙ c.if-is_some.false)

pub returns : goal.returns
returns c =
    let leads : List (Option ℕ) = c.deref-lead-items.result.now in
    let are : AreLeads c.args.self.now leads = subst (λ (l : List (Option ℕ)). AreLeads c.args.self.now l) (sym c.deref-lead-items.ensures.value) (subst (λ (w : List (Option Want)). AreLeads w c.self.inside.leads.items) c.self.view_is c.self.invariant) in
    none_at_all c.args.self.now leads c.loop-lead.lead-index are c.loop-lead-test.false c.loop-lead.invariant
