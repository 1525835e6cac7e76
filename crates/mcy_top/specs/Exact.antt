-- Laws of refusals: each comes exactly where its cause holds.
use Rattle.std.specs.Prelude.{◌≡◌, ◌≢◌, ◌⊎◌, ℕ, List, Option, None, Some, ⊤}
use Rattle.mcy_keeper.specs.declared.book.Book.{Book}
use Rattle.mcy_outside.specs.Files.{Held}
use Rattle.command_words.specs.declared.command.Command.{Command}
use Rattle.result_book.specs.declared.goal.Goal.{Goal}
use Rattle.campaign_plan.specs.declared.prepared.Prepared.{Prepared}
use Rattle.campaign_reading.specs.declared.refusal.Refusal.{Refusal}
use Rattle.mcy_top.specs.declared.refusal.BookRefusal.{BookRefusal}
use Rattle.mcy_top.specs.declared.refusal.BookRefusal.TheVariants.{Memory as NoMemory}
use Rattle.campaign_outcomes.specs.declared.outcome.Outcome.{Outcome}
use Rattle.campaign_outcomes.specs.declared.outcome.Outcome.TheVariants.{Usage, ReadFault, Memory}
use Rattle.campaign_reading.specs.Files.{IsMade}
use Rattle.campaign_plan.specs.Campaigns.{IsPlan}
use Rattle.campaign_reading.specs.Reads.{IsUnmade}
use Rattle.command_words.specs.Commands.{command_of}
use Rattle.mcy_top.specs.Outcomes.{book_outcome, outcome_of}
use Rattle.mcy_top.specs.BookRefusals.{RefusesBook}
use Rattle.mcy_top.specs.Life.{Answered, Answers, Commands}

-- Reading failed, or there was no memory: that may come whatever the files hold.
abbrev pub IsCutShort : Outcome → Type 0
IsCutShort (ReadFault name) = ⊤
IsCutShort Memory = ⊤
IsCutShort outcome = ⊥

-- why what the files hold makes no campaign
pub record RefusesFiles (map : Held) (refusal : Refusal) : Type 0 where
  pub cause : IsUnmade (Some map) refusal
  pub by_files : ¬ IsCutShort (outcome_of refusal)

-- the book is refused, and not for want of memory
pub record RefusesFor (command : Command) (aim : Goal) (c : Prepared) (loaded : Book) (refusal : BookRefusal) : Type 0 where
  pub cause : RefusesBook command aim c loaded refusal
  pub by_book : refusal ≢ NoMemory

-- Where the words give no command, the call ends with that, or there is no memory.
abbrev pub UsageIsExact : Type 0
UsageIsExact = (words : List (List ℕ)) (held : Option Held) (outcome : Outcome) → command_of words ≡ None → Answered words held outcome → (outcome ≡ Usage) ⊎ (outcome ≡ Memory)

-- Where the files are refused, the call ends with that, or it was cut short.
abbrev pub FileRefusalsAreExact : Type 0
FileRefusalsAreExact = (words : List (List ℕ)) (map : Held) (refusal : Refusal) (outcome : Outcome) → Commands words → RefusesFiles map refusal → Answered words (Some map) outcome → (outcome ≡ outcome_of refusal) ⊎ IsCutShort outcome

-- Where the command refuses the loaded book, the call ends with that, or there is no memory.
abbrev pub BookRefusalsAreExact : Type 0
BookRefusalsAreExact = (command : Command) (aim : Goal) (c : Prepared) (loaded sure : Book) (refusal : BookRefusal) (outcome : Outcome) → IsPlan c → RefusesFor command aim c loaded refusal → Answers command aim c loaded sure outcome → (outcome ≡ book_outcome refusal) ⊎ (outcome ≡ Memory)

-- Files are refused for one cause,
abbrev pub FilesHaveOneCause : Type 0
FilesHaveOneCause = (map : Held) (refusal other : Refusal) → RefusesFiles map refusal → RefusesFiles map other → refusal ≡ other

-- and where they are refused they make no campaign.
abbrev pub RefusedFilesMakeNone : Type 0
RefusedFilesMakeNone = (map : Held) (refusal : Refusal) (c : Prepared) → RefusesFiles map refusal → ¬ IsMade (Some map) c
