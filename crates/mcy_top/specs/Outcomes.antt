-- The outcomes of calls that are refused.
use Rattle.campaign_reading.specs.declared.refusal.Refusal.{Refusal}
use Rattle.campaign_reading.specs.declared.refusal.Refusal.TheVariants.{ProjectBad as RefusedProject, ScriptBad as RefusedScript, SourceBad as RefusedSource, Missing as RefusedMissing, TooLarge as RefusedTooLarge, ReadFault as RefusedRead, Memory as RefusedMemory}
use Rattle.mcy_top.specs.declared.refusal.BookRefusal.{BookRefusal}
use Rattle.mcy_top.specs.declared.refusal.BookRefusal.TheVariants.{NoCampaign as RefusedNone, AlreadyBegun as RefusedBegun, BookBad as RefusedBook, NoMutation as RefusedMutation, Memory as NoMemory}
use Rattle.campaign_outcomes.specs.declared.outcome.Outcome.{Outcome}
use Rattle.campaign_outcomes.specs.declared.outcome.Outcome.TheVariants.{ProjectBad, ScriptBad, SourceBad, Missing, TooLarge, NoCampaign, AlreadyBegun, BookBad, ReadFault, Memory, NoMutation}

-- the outcome of a call whose files are refused
abbrev pub outcome_of : Refusal → Outcome
outcome_of (RefusedProject error) = ProjectBad error
outcome_of (RefusedScript error) = ScriptBad error
outcome_of (RefusedSource error) = SourceBad error
outcome_of (RefusedMissing name) = Missing name
outcome_of (RefusedTooLarge name) = TooLarge name
outcome_of (RefusedRead name) = ReadFault name
outcome_of RefusedMemory = Memory

-- the outcome of a call that refuses the loaded book
abbrev pub book_outcome : BookRefusal → Outcome
book_outcome RefusedNone = NoCampaign
book_outcome RefusedBegun = AlreadyBegun
book_outcome (RefusedBook error) = BookBad error
book_outcome (RefusedMutation number) = NoMutation number
book_outcome NoMemory = Memory
