-- The exit status of each outcome.
use Rattle.std.specs.Prelude.{ℕ}
use Rattle.campaign_outcomes.specs.declared.outcome.Outcome.{Outcome}
use Rattle.campaign_outcomes.specs.declared.outcome.Outcome.TheVariants.{Done, Unfinished, Usage, ProjectBad, ScriptBad, SourceBad, Missing, TooLarge, NoCampaign, AlreadyBegun, BookBad, ReadFault, KeeperFault, WriteFault, Memory, BaselineBad, RequirementMissed, NoMutation}

-- the exit status (README.md)
abbrev pub status_of : Outcome → ℕ
status_of Done = 0
status_of (Unfinished left) = 1
status_of Usage = 2
status_of (ProjectBad error) = 3
status_of (ScriptBad error) = 4
status_of (SourceBad error) = 5
status_of (Missing name) = 6
status_of (TooLarge name) = 7
status_of NoCampaign = 8
status_of AlreadyBegun = 9
status_of (BookBad error) = 10
status_of (ReadFault name) = 11
status_of KeeperFault = 12
status_of WriteFault = 13
status_of Memory = 14
status_of BaselineBad = 20
status_of RequirementMissed = 21
status_of (NoMutation number) = 22
