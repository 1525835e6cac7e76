-- What an outcome says of the words and the files, once both are accepted.
use Rattle.mcy_top.proofs.Common.{ℕ, List, Option, KeepError, KeepFault, KeepMemory, Held, Outcome, Done, Unfinished, BaselineBad, NoCampaign, AlreadyBegun, BookBad, KeeperFault, WriteFault, Memory}
use Rattle.mcy_top.proofs.Common.{RequirementMissed, NoMutation, failed_outcome, HasLateCause, Answered, IsAccepted}

-- the outcome of a call that has loaded a book
pub late_answered : (words : List (List ℕ)) (held : Option Held) (keeper keeper' sink sink' : ℕ) (outcome : Outcome) → IsAccepted words held → HasLateCause keeper keeper' sink sink' outcome → Answered words held outcome
late_answered words held keeper keeper' sink sink' Done accepted cause = accepted
late_answered words held keeper keeper' sink sink' RequirementMissed accepted cause = accepted
late_answered words held keeper keeper' sink sink' (Unfinished left) accepted cause = accepted
late_answered words held keeper keeper' sink sink' BaselineBad accepted cause = accepted
late_answered words held keeper keeper' sink sink' NoCampaign accepted cause = accepted
late_answered words held keeper keeper' sink sink' AlreadyBegun accepted cause = accepted
late_answered words held keeper keeper' sink sink' (BookBad error) accepted cause = accepted
late_answered words held keeper keeper' sink sink' (NoMutation number) accepted cause = accepted
late_answered words held keeper keeper' sink sink' KeeperFault accepted cause = accepted
late_answered words held keeper keeper' sink sink' WriteFault accepted cause = accepted
late_answered words held keeper keeper' sink sink' Memory accepted cause = tt
late_answered words held keeper keeper' sink sink' outcome accepted cause = absurd cause

-- and of one whose load failed
pub failed_answered : (words : List (List ℕ)) (held : Option Held) (error : KeepError) → IsAccepted words held → Answered words held (failed_outcome error)
failed_answered words held KeepFault accepted = accepted
failed_answered words held KeepMemory accepted = tt
