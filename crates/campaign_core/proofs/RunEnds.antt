-- How a program's run ends: at the rows asked for, where no event comes next, or at one that was refused.
use Rattle.campaign_core.proofs.Common.{◌≡◌, ◌∙◌, inl, inr, arith, ℕ, ◌+◌, true, List, Option, Some, sym, ◌⊎◌, Book, Event, IsUnchanged, Program, WantsNone, next_event, Broke, HasFree, IsWithin}
use Rattle.campaign_core.proofs.Common.{LeavesNext, Ran, Reached, Torn, Asked, Turns}
use Rattle.campaign_core.proofs.RunCounts.{within_more}
use Rattle.campaign_core.proofs.Runs.{program_stays}

module _ {T : Type 0} (gives : T → Asked → ℕ → Type 0) (most : T → Asked → ℕ) (stop : Option ℕ) (start now : Turns T) (course : (events : List Event) × Program gives most start events now) (within : IsWithin stop start.acknowledged now.acknowledged) where
  module _ (room : Reached stop start.acknowledged now.acknowledged → HasFree start.slots → HasFree now.slots) where
    pub ran_reached : Reached stop start.acknowledged now.acknowledged → Ran gives most stop start now
    ran_reached all = record { events = course.0; program = course.1; within = within; ends = inr (inl all); room = room }

    pub ran_ended : (now.is_stopped ≡ true) ⊎ WantsNone now → Ran gives most stop start now
    ran_ended (inl stopped) = record { events = course.0; program = course.1; within = within; ends = inr (inr (sym (program_stays gives most course.0 start now course.1) ∙ stopped)); room = room }
    ran_ended (inr none) = record { events = course.0; program = course.1; within = within; ends = inl none; room = room }

  module _ (e : Event) (comes : next_event now ≡ Some e) (short : Reached stop start.acknowledged now.acknowledged → ⊥) (new : Turns T) (unchanged : IsUnchanged now new) where
    abbrev pub broke_by : Broke gives most stop start new
    broke_by = record {
      events = course.0;
      last = now;
      program = course.1;
      refused = e;
      comes = comes;
      unchanged = unchanged;
      within = within_more stop start.acknowledged now.acknowledged (now.acknowledged + 1) short (omega arith) within;
    }

    pub torn_by : (leaves : Option Book → Type 0) → LeavesNext leaves now → Torn gives most stop leaves start new
    torn_by leaves left = record { broke = broke_by; left = left }
