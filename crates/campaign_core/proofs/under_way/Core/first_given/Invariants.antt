use Rattle.campaign_core.proofs.Common.{◌≡◌, ◌-◌, first_given, slot_gives}
use Rattle.campaign_core.proofs.under_way.Core.first_given.Given as goal

-- those so far gave none
abbrev pub invariant-loop-slot : goal.invariant-loop-slot
invariant-loop-slot g l = first_given (slot_gives l.self) l.slot (l.to - l.slot) ≡ first_given (slot_gives l.self) l.from (l.to - l.from)
