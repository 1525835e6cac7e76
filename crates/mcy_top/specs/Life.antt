-- One call of the program, from end to end.
use Rattle.std.specs.Prelude.{◌≡◌, ◌≢◌, ◌⊎◌, ℕ, ◌+◌, true, false, zero, suc, ◌<◌, ◌≤◌, List, [], ◌++◌, length, ⊤, Option, None, Some, is_some, if◌then◌else◌}
use Rattle.mcy_base.specs.Causes.{Rose}
use Rattle.mcy_keeper.specs.declared.book.Book.{Book}
use Rattle.mcy_keeper.specs.declared.book.Entry.{Entry}
use Rattle.mcy_keeper.specs.Books.{IsBlank, IsSecond, LeavesNothingNew, LeavesOnly}
use Rattle.mcy_outside.specs.Files.{Held}
use Rattle.result_book.specs.declared.goal.Goal.{Goal}
use Rattle.result_book.specs.Goals.{is_in, wanted}
use Rattle.result_book.specs.Rows.{ask_on, history, IsFinished, IsWellFormed}
use Rattle.result_book.specs.Scripts.{is_ended}
use Rattle.mcy_outside.specs.Written.{Appends, AppendsPart}
use Rattle.command_words.specs.declared.command.Command.{Command}
use Rattle.command_words.specs.declared.command.Command.TheVariants.{Init, Run, List as Listing, Status, Source, Baseline, Demo}
use Rattle.campaign_plan.specs.declared.prepared.Prepared.{Prepared}
use Rattle.campaign_reading.specs.declared.refusal.Refusal.TheVariants.{ProjectBad as RefusedProject, ScriptBad as RefusedScript, SourceBad as RefusedSource, Missing as RefusedMissing, TooLarge as RefusedTooLarge, ReadFault as RefusedRead}
use Rattle.mcy_top.specs.declared.refusal.BookRefusal.TheVariants.{NoCampaign as RefusedNone, AlreadyBegun as RefusedBegun, BookBad as RefusedBook, NoMutation as RefusedMutation}
use Rattle.campaign_outcomes.specs.declared.outcome.Outcome.{Outcome}
use Rattle.campaign_outcomes.specs.declared.outcome.Outcome.TheVariants.{Done, Unfinished, Usage, ProjectBad, ScriptBad, SourceBad, Missing, TooLarge, NoCampaign, AlreadyBegun, BookBad, ReadFault, KeeperFault, WriteFault, Memory, BaselineBad, RequirementMissed, NoMutation}
use Rattle.campaign_run.specs.Running.{AreWanted, IsWithin, WantsNone}
use Rattle.command_words.specs.Commands.{command_of}
use Rattle.mcy_top.specs.Commands.{aim_of, slots_of, stop_of, AimsAtAll, IsAside, OnBook, OnlyReads, Runs}
use Rattle.campaign_reading.specs.Files.{IsMade}
use Rattle.campaign_reading.specs.Reads.{IsUnmade}
use Rattle.campaign_run.specs.Limits.{PassesBaselines}
use Rattle.mcy_top.specs.BookRefusals.{HasNamed, RefusesBook}
use Rattle.mcy_top.specs.Limits.{IsUnfit, Opens}
use Rattle.campaign_run.specs.Rows.{IsGood, IsBlankOrGood, IsPrefix, IsWithinOne}
use Rattle.campaign_run.specs.Crashes.{LeavesBooks}
use Rattle.campaign_run.specs.Changes.{Course, IsNear}
use Rattle.mcy_top.specs.Texts.{text_of}
use Rattle.mcy_top.specs.Requirements.{misses_on}
use Rattle.mcy_top.specs.Defined.{given_up, IsFinalText}
use Rattle.mcy_top.specs.ProgramOrder.{IsInOrder}

-- the words give a command
abbrev pub Commands : List (List ℕ) → Type 0
Commands words = command_of words ≢ None

-- the words give a command, and the files a campaign
pub record IsAccepted (words : List (List ℕ)) (held : Option Held) : Type 0 where
  pub asked : Commands words
  pub prepared : Prepared
  pub made : IsMade held prepared

-- What each outcome says of the words and the files.
abbrev pub Answered : List (List ℕ) → Option Held → Outcome → Type 0
Answered words held Usage = command_of words ≡ None
Answered words held (Missing name) = Commands words × IsUnmade held (RefusedMissing name)
Answered words held (TooLarge name) = Commands words × IsUnmade held (RefusedTooLarge name)
Answered words held (ReadFault name) = Commands words × IsUnmade held (RefusedRead name)
Answered words held (ProjectBad error) = Commands words × IsUnmade held (RefusedProject error)
Answered words held (ScriptBad error) = Commands words × IsUnmade held (RefusedScript error)
Answered words held (SourceBad error) = Commands words × IsUnmade held (RefusedSource error)
Answered words held Memory = ⊤
Answered words held outcome = IsAccepted words held

-- how a call may end that has loaded no book
abbrev pub EndsEarly : Outcome → Type 0
EndsEarly Usage = ⊤
EndsEarly (Missing name) = ⊤
EndsEarly (TooLarge name) = ⊤
EndsEarly (ReadFault name) = ⊤
EndsEarly (ProjectBad error) = ⊤
EndsEarly (ScriptBad error) = ⊤
EndsEarly (SourceBad error) = ⊤
EndsEarly KeeperFault = ⊤
EndsEarly Memory = ⊤
EndsEarly outcome = ⊥

-- A fault comes only where its count rose.
abbrev pub HasCause : (files files' keeper keeper' sink sink' : ℕ) → Outcome → Type 0
HasCause files files' keeper keeper' sink sink' (ReadFault name) = Rose files files'
HasCause files files' keeper keeper' sink sink' KeeperFault = Rose keeper keeper'
HasCause files files' keeper keeper' sink sink' WriteFault = Rose sink sink'
HasCause files files' keeper keeper' sink sink' outcome = ⊤

-- The command was done. What is required of the campaign is met, or missed: that is told apart by the outcome alone.
abbrev pub IsDone : Outcome → Type 0
IsDone Done = ⊤
IsDone RequirementMissed = ⊤
IsDone outcome = ⊥

-- what was written at each outcome
abbrev pub Wrote : Option (List ℕ) → Option (List ℕ) → List ℕ → Outcome → Type 0
Wrote before now text Done = Appends before now text
Wrote before now text RequirementMissed = Appends before now text
Wrote before now text (Unfinished left) = Appends before now text
Wrote before now text WriteFault = AppendsPart before now text
Wrote before now text outcome = now ≡ before

-- Nothing is written at a refusal.
abbrev pub IsQuiet : Option (List ℕ) → Option (List ℕ) → Outcome → Type 0
IsQuiet before now Done = ⊤
IsQuiet before now RequirementMissed = ⊤
IsQuiet before now BaselineBad = ⊤
IsQuiet before now (Unfinished left) = ⊤
IsQuiet before now WriteFault = ⊤
IsQuiet before now outcome = now ≡ before

-- the command takes this book, and the campaign has the mutations that it names
abbrev pub Takes : Command → Goal → Prepared → Book → Type 0
Takes Init aim c book = IsBlank book
Takes (Run jobs stop retry) aim c book = (IsBlank book ⊎ IsWellFormed c.campaign book) × HasNamed aim c
Takes Listing aim c book = IsWellFormed c.campaign book
Takes (Status strict) aim c book = IsWellFormed c.campaign book
Takes Source aim c book = IsWellFormed c.campaign book
Takes Baseline aim c book = ⊥
Takes (Demo seed cells) aim c book = ⊥

-- the mutations that are aimed at are finished
abbrev pub AreEnded : Goal → Prepared → Book → Type 0
AreEnded aim c book = (m : ℕ) → m < length c.campaign.mutations → is_in aim m ≡ true → is_ended (ask_on c.campaign m book.journal) ≡ true

-- No mutation wants a test under the goal, so that those that are aimed at are finished. Where all are, the text is the one that the
-- campaign defines with the pairs that the book gave up.
pub record IsWhole (command : Command) (aim : Goal) (c : Prepared) (loaded book : Book) (text : List ℕ) : Type 0 where
  pub wants_none : WantsNone c aim book.journal
  pub ended : AreEnded aim c book
  pub finished : AimsAtAll aim → IsFinished c.campaign book
  pub final : AimsAtAll aim → IsBlankOrGood loaded → IsFinalText command c (given_up book.journal) text

-- how many of so many mutations, from mutation m on, want a test under a goal
abbrev pub wanting_from : Prepared → Goal → List Entry → (m n : ℕ) → ℕ
wanting_from c goal rows m zero = 0
wanting_from c goal rows m (suc n) = (if is_some (wanted c.campaign rows m goal) then 1 else 0) + wanting_from c goal rows (m + 1) n

-- how many mutations do
abbrev pub wanting : Prepared → Goal → List Entry → ℕ
wanting c goal rows = wanting_from c goal rows 0 (length c.campaign.mutations)

-- as many entries as were asked for were acknowledged, and so many mutations want a test still
pub record IsStopped (command : Command) (aim : Goal) (c : Prepared) (loaded book : Book) (left : ℕ) : Type 0 where
  pub stop : ℕ
  pub asked : stop_of command ≡ Some stop
  pub gained : length book.journal ≡ length loaded.journal + stop
  pub left_is : left ≡ wanting c aim book.journal
  pub some : 0 < left

-- The command took the book, and did all that it was to do.
pub record DidAll (command : Command) (aim : Goal) (c : Prepared) (loaded sure : Book) : Type 0 where
  pub takes : Takes command aim c loaded
  pub form : IsWellFormed c.campaign sure
  pub whole : Runs command → IsWhole command aim c loaded sure (text_of command c sure)

-- How a call ends that has loaded a book.
abbrev pub Answers : Command → Goal → Prepared → Book → Book → Outcome → Type 0
Answers command aim c loaded sure Done = DidAll command aim c loaded sure × (misses_on command c sure ≡ false)
Answers command aim c loaded sure RequirementMissed = DidAll command aim c loaded sure × (misses_on command c sure ≡ true)
Answers command aim c loaded sure (Unfinished left) = Takes command aim c loaded × IsWellFormed c.campaign sure × IsStopped command aim c loaded sure left
Answers command aim c loaded sure NoCampaign = RefusesBook command aim c loaded RefusedNone
Answers command aim c loaded sure AlreadyBegun = RefusesBook command aim c loaded RefusedBegun
Answers command aim c loaded sure (BookBad error) = RefusesBook command aim c loaded (RefusedBook error)
Answers command aim c loaded sure (NoMutation number) = RefusesBook command aim c loaded (RefusedMutation number)
Answers command aim c loaded sure BaselineBad = Takes command aim c loaded × IsUnfit command c
Answers command aim c loaded sure KeeperFault = Takes command aim c loaded
Answers command aim c loaded sure WriteFault = Takes command aim c loaded
Answers command aim c loaded sure Memory = ⊤
Answers command aim c loaded sure outcome = ⊥

-- the text was made and written
abbrev pub Carried : Outcome → Type 0
Carried Done = ⊤
Carried RequirementMissed = ⊤
Carried (Unfinished left) = ⊤
Carried outcome = ⊥

-- each row that the book has beyond the history of the loaded one is of the test that its mutation wanted under the goal
abbrev pub GainsWanted : Prepared → Goal → (loaded book : Book) → Type 0
GainsWanted c goal loaded book = (more : List Entry) → book.journal ≡ (history c.campaign loaded).journal ++ more → AreWanted c goal (history c.campaign loaded).journal more

-- The sure book has the loaded one as its first part, and every crash leaves a book: the sure one, with one entry more
-- at most, and no more entries than were asked for. The sure book was reached by changes, and every crash leaves it or
-- the book after one change more. Where tests were run and a text was written, it is of the second format. The rows that a run adds
-- are in its order in every book that a crash leaves.
pub record Grew (leaves : Option Book → Type 0) (command : Command) (aim : Goal) (c : Prepared) (loaded sure : Book) (outcome : Outcome) : Type 0 where
  pub grown : IsPrefix loaded sure
  pub within_one : LeavesBooks leaves (IsWithinOne sure)
  pub good : IsBlankOrGood loaded → LeavesBooks leaves (λ other. IsGood other ⊎ (IsBlank other × IsBlank loaded))
  pub reads : OnlyReads command → LeavesOnly leaves loaded
  pub no_entry : ¬ Runs command → LeavesBooks leaves (λ other. other.journal ≡ loaded.journal)
  pub gained : IsWithin (stop_of command) (length loaded.journal) (length sure.journal)
  pub wanted_only : GainsWanted c aim loaded sure
  pub order : Runs command → LeavesBooks leaves (IsInOrder c aim (slots_of command) loaded)
  pub stops : LeavesBooks leaves (λ other. IsWithin (stop_of command) (length loaded.journal) (length other.journal))
  pub exact : Carried outcome → LeavesOnly leaves sure
  pub is_begun : Carried outcome → sure.meta ≢ []
  pub second : Carried outcome → Runs command → IsSecond sure
  pub changes : List Book
  pub course : Course c loaded changes sure
  pub near : LeavesBooks leaves (IsNear c sure)

-- each test that was started has its entry
abbrev pub IsCounted : Outcome → Type 0
IsCounted (Unfinished left) = ⊥
IsCounted KeeperFault = ⊥
IsCounted WriteFault = ⊥
IsCounted Memory = ⊥
IsCounted outcome = ⊤

-- where a number of rows was asked for, fewer tests were started than that number and the slots together
abbrev pub StartsFew : Option ℕ → (slots before now : ℕ) → Type 0
StartsFew None slots before now = ⊤
StartsFew (Some stop) slots before now = now < before + stop + slots

-- Each entry that the sure book gained was of a test that was started in the call, and took a step then. The steps are at most these
-- entries and the slots, and at most these and the mutations that want a test still. They are exactly the entries where the command was done; a refused call
-- takes none. With one slot no test is started beyond the rows that were asked for, and with each further slot one at most. A command
-- that runs no tests takes none.
pub record Stepped (command : Command) (aim : Goal) (c : Prepared) (loaded sure : Book) (before now : ℕ) (outcome : Outcome) : Type 0 where
  pub least : before + length sure.journal ≤ now + length loaded.journal
  pub bound : now + length loaded.journal ≤ before + length sure.journal + slots_of command
  pub wants : now + length loaded.journal ≤ before + length sure.journal + wanting c aim sure.journal
  pub stops : 1 ≤ slots_of command → StartsFew (stop_of command) (slots_of command) before now
  pub equal : IsCounted outcome → now + length loaded.journal ≡ before + length sure.journal
  pub idle : ¬ Runs command → now ≡ before

-- what a call does after it has loaded a book
pub record Work (leaves : Option Book → Type 0) (written written' : Option (List ℕ)) (taken taken' : ℕ) (command : Command) (aim : Goal) (c : Prepared) (loaded : Book) (outcome : Outcome) : Type 0 where
  pub sure : Book
  pub book : Grew leaves command aim c loaded sure outcome
  pub steps : Stepped command aim c loaded sure taken taken' outcome
  pub text : Wrote written written' (text_of command c sure) outcome
  pub answer : Answers command aim c loaded sure outcome

-- A call that has loaded a book: the one that was told at entry, else one that a crash could have left then. Where it begins a campaign or
-- runs it, and its text was written, the baselines pass that the project asks for.
pub record Life (words : List (List ℕ)) (held : Option Held) (holds : Book → Type 0) (leaves leaves' : Option Book → Type 0) (written written' : Option (List ℕ)) (taken taken' : ℕ) (outcome : Outcome) : Type 0 where
  pub command : Command
  pub prepared : Prepared
  pub loaded : Book
  pub asked : command_of words ≡ Some command
  pub on_book : OnBook command
  pub made : IsMade held prepared
  pub found : (was : Book) → holds was → loaded ≡ was
  pub allowed : leaves (Some loaded)
  pub work : Work leaves' written written' taken taken' command (aim_of words command) prepared loaded outcome
  pub passes : Opens command → Carried outcome → PassesBaselines prepared

-- A call that ended before it had loaded a book.
pub record Early (leaves leaves' : Option Book → Type 0) (taken taken' : ℕ) (outcome : Outcome) : Type 0 where
  pub early : EndsEarly outcome
  pub leaves_is : LeavesNothingNew leaves leaves'
  pub steps_is : taken' ≡ taken

-- A call for a demo or for what the benches say of the design itself, which loads no book and leaves the keeper as it was. What it does
-- the clauses `demo` and `baseline` say.
pub record Aside (words : List (List ℕ)) (leaves leaves' : Option Book → Type 0) : Type 0 where
  pub asked : IsAside words
  pub leaves_is : LeavesNothingNew leaves leaves'

-- A call that has loaded no book.
abbrev pub Unloaded : List (List ℕ) → (leaves leaves' : Option Book → Type 0) → (taken taken' : ℕ) → Outcome → Type 0
Unloaded words leaves leaves' taken taken' outcome = Early leaves leaves' taken taken' outcome ⊎ Aside words leaves leaves'
