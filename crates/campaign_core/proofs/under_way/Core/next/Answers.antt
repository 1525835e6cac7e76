use Rattle.campaign_core.proofs.Common.{◌≡◌, length, sym, ap, ◌∙◌, arith, length-map, Turns}
use Rattle.campaign_core.proofs.Nexts.{found_first, found_second, kept_order}
use Rattle.campaign_core.proofs.under_way.Core.next.Goals as goal

pub returns-then-is_some-clause-allowed : goal.returns-then-is_some-clause-allowed
returns-then-is_some-clause-allowed g c =
    let long : length c.args.self.now.slots ≡ length c.self.inside.slots.items = ap (λ (s : Turns _). length s.slots) (sym c.self.view_is) ∙ length-map c.self.inside.slots.items _ in
    (found_first _ c.args.self.now c.self.inside.first c.len.result c.first_given-event.result (kept_order _ _ c.args.self.now c.self.view_is c.self.invariant.order)
    (sym (ap (λ (s : Turns _). s.is_stopped) c.self.view_is) ∙ c.if-self.false) (ap (λ (s : Turns _). s.first) c.self.view_is) (omega (arith, c.len.ensures, long, c.self.inside.slots.ok.0))
    c.first_given-event.ensures (sym c.is_some.ensures ∙ c.if-is_some.true)).allowed

pub returns-then-is_some-clause-none : goal.returns-then-is_some-clause-none
returns-then-is_some-clause-none g c =
    let long : length c.args.self.now.slots ≡ length c.self.inside.slots.items = ap (λ (s : Turns _). length s.slots) (sym c.self.view_is) ∙ length-map c.self.inside.slots.items _ in
    (found_first _ c.args.self.now c.self.inside.first c.len.result c.first_given-event.result (kept_order _ _ c.args.self.now c.self.view_is c.self.invariant.order)
    (sym (ap (λ (s : Turns _). s.is_stopped) c.self.view_is) ∙ c.if-self.false) (ap (λ (s : Turns _). s.first) c.self.view_is) (omega (arith, c.len.ensures, long, c.self.inside.slots.ok.0))
    c.first_given-event.ensures (sym c.is_some.ensures ∙ c.if-is_some.true)).none

pub returns-clause-allowed : goal.returns-clause-allowed
returns-clause-allowed g c =
    let long : length c.args.self.now.slots ≡ length c.self.inside.slots.items = ap (λ (s : Turns _). length s.slots) (sym c.self.view_is) ∙ length-map c.self.inside.slots.items _ in
    (found_second _ c.args.self.now c.self.inside.first c.len.result c.first_given-event.result c.first_given.result (kept_order _ _ c.args.self.now c.self.view_is c.self.invariant.order)
    (sym (ap (λ (s : Turns _). s.is_stopped) c.self.view_is) ∙ c.if-self.false) (ap (λ (s : Turns _). s.first) c.self.view_is) (omega (arith, c.len.ensures, long, c.self.inside.slots.ok.0))
    c.first_given-event.ensures (sym c.is_some.ensures ∙ c.if-is_some.false) c.first_given.ensures).allowed

pub returns-clause-none : goal.returns-clause-none
returns-clause-none g c =
    let long : length c.args.self.now.slots ≡ length c.self.inside.slots.items = ap (λ (s : Turns _). length s.slots) (sym c.self.view_is) ∙ length-map c.self.inside.slots.items _ in
    (found_second _ c.args.self.now c.self.inside.first c.len.result c.first_given-event.result c.first_given.result (kept_order _ _ c.args.self.now c.self.view_is c.self.invariant.order)
    (sym (ap (λ (s : Turns _). s.is_stopped) c.self.view_is) ∙ c.if-self.false) (ap (λ (s : Turns _). s.first) c.self.view_is) (omega (arith, c.len.ensures, long, c.self.inside.slots.ok.0))
    c.first_given-event.ensures (sym c.is_some.ensures ∙ c.if-is_some.false) c.first_given.ensures).none
