-- How the work of a command ends.
use Rattle.std.specs.Prelude.{◌≡◌, ℕ, Bool, true, false, ◌==◌, List, Option, ⊤, if◌then◌else◌}
use Rattle.mcy_base.specs.Causes.{Rose}
use Rattle.mcy_keeper.specs.declared.book.Entry.{Entry}
use Rattle.mcy_keeper.specs.declared.keeper.KeepError.{KeepError}
use Rattle.mcy_keeper.specs.declared.keeper.KeepError.TheVariants.{Fault as KeepFault, Memory as KeepMemory}
use Rattle.campaign_core.specs.declared.event.CoreError.{CoreError}
use Rattle.campaign_core.specs.declared.event.CoreError.TheVariants.{Keeper as CoreFault, Memory as CoreMemory}
use Rattle.mcy_outside.specs.Written.{Appends, AppendsPart}
use Rattle.mcy_top.specs.declared.ending.Ending.{Ending}
use Rattle.mcy_top.specs.declared.ending.Ending.TheVariants.{Written, Refused, NoMemory}
use Rattle.campaign_outcomes.specs.declared.outcome.Outcome.{Outcome}
use Rattle.campaign_outcomes.specs.declared.outcome.Outcome.TheVariants.{Done, Unfinished, NoCampaign, AlreadyBegun, BookBad, BaselineBad, KeeperFault, WriteFault, Memory, RequirementMissed, NoMutation}
use Rattle.campaign_plan.specs.declared.prepared.Prepared.{Prepared}
use Rattle.result_book.specs.declared.goal.Goal.{Goal}
use Rattle.result_book.specs.Rows.{groups}
use Rattle.mcy_top.specs.Requirements.{falls_short}
use Rattle.mcy_top.specs.Life.{wanting, IsQuiet}

-- For proofs alone.

-- the outcome of a command that was done
abbrev pub done_outcome : (missed : Bool) → Outcome
done_outcome true = RequirementMissed
done_outcome false = Done

-- the outcome of a command, from its outcome where the text is written
abbrev pub ended_outcome : Outcome → Ending → Outcome
ended_outcome outcome Written = outcome
ended_outcome outcome Refused = WriteFault
ended_outcome outcome NoMemory = Memory

-- the outcome of a command that an error of the keeper ended
abbrev pub failed_outcome : KeepError → Outcome
failed_outcome KeepFault = KeeperFault
failed_outcome KeepMemory = Memory

-- the outcome of a run whose core was refused
abbrev pub broken_outcome : CoreError → Outcome
broken_outcome CoreFault = KeeperFault
broken_outcome CoreMemory = Memory

-- a text was written, a part of it, or nothing for want of memory
abbrev pub Delivers : Option (List ℕ) → Option (List ℕ) → List ℕ → Ending → Type 0
Delivers before now text Written = Appends before now text
Delivers before now text Refused = AppendsPart before now text
Delivers before now text NoMemory = now ≡ before

-- what the outcome of a call that has loaded a book says of the counts
abbrev pub HasLateCause : (keeper keeper' sink sink' : ℕ) → Outcome → Type 0
HasLateCause keeper keeper' sink sink' KeeperFault = Rose keeper keeper'
HasLateCause keeper keeper' sink sink' WriteFault = Rose sink sink'
HasLateCause keeper keeper' sink sink' Done = ⊤
HasLateCause keeper keeper' sink sink' RequirementMissed = ⊤
HasLateCause keeper keeper' sink sink' (Unfinished left) = ⊤
HasLateCause keeper keeper' sink sink' BaselineBad = ⊤
HasLateCause keeper keeper' sink sink' NoCampaign = ⊤
HasLateCause keeper keeper' sink sink' AlreadyBegun = ⊤
HasLateCause keeper keeper' sink sink' (BookBad error) = ⊤
HasLateCause keeper keeper' sink sink' (NoMutation number) = ⊤
HasLateCause keeper keeper' sink sink' Memory = ⊤
HasLateCause keeper keeper' sink sink' outcome = ⊥

-- what holds of the end of the work, whatever the keeper tells
pub record Ends (written written' : Option (List ℕ)) (keeper keeper' sink sink' : ℕ) (outcome : Outcome) : Type 0 where
  pub quiet : IsQuiet written written' outcome
  pub cause : HasLateCause keeper keeper' sink sink' outcome

-- the outcome of a run whose text is written
abbrev pub run_outcome : Prepared → Goal → List Entry → Outcome
run_outcome c goal rows = if wanting c goal rows == 0 then done_outcome (falls_short c (groups c.campaign rows)) else Unfinished (wanting c goal rows)
