use Rattle.campaign_core.proofs.Common.{◌≡◌, false, Option, sym, ap, ◌∙◌, is_some, Event, slot_gives}
use Rattle.campaign_core.proofs.Nexts.{given_more}
use Rattle.campaign_core.proofs.under_way.Core.first_given.Goals as goal

pub loop-slot-preserved : goal.loop-slot-preserved
loop-slot-preserved g c =
    let none : is_some (slot_gives c.args.self.now c.loop-slot.slot) ≡ false = ap (λ (o : Option Event). is_some o) (sym c.slot_gives-event.ensures) ∙ sym c.is_some.ensures ∙ c.if-is_some.false in
    given_more (slot_gives c.args.self.now) c.loop-slot.slot c.args.to c.loop-slot-test.true none ∙ c.loop-slot.invariant
