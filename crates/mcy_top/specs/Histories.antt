-- Laws of lists of calls over one keeper: what the contract of `mcy_main` says of each call makes them lives.
use Rattle.std.specs.Prelude.{◌≡◌, ◌⊎◌, ℕ, List, [], ◌∷◌, ◌++◌, take, Option, Some, IsSomeAnd, ⊤}
use mathlib.Core.Logic.{inl, inr}
use Rattle.mcy_keeper.specs.declared.book.Book.{Book}
use Rattle.mcy_keeper.specs.Books.{LeavesNothingNew, LeavesSome}
use Rattle.mcy_outside.specs.Files.{Held}
use Rattle.mcy_outside.specs.Written.{Appends}
use Rattle.result_book.specs.Rows.{IsFinished}
use Rattle.campaign_plan.specs.declared.prepared.Prepared.{Prepared}
use Rattle.command_words.specs.declared.command.Command.{Command}
use Rattle.campaign_outcomes.specs.declared.outcome.Outcome.{Outcome}
use Rattle.command_words.specs.Commands.{mutations_of}
use Rattle.mcy_top.specs.Commands.{aim_of, Runs}
use Rattle.campaign_run.specs.Rows.{IsBlankOrGood}
use Rattle.campaign_run.specs.Crashes.{LeavesBooks}
use Rattle.campaign_run.specs.Changes.{IsNear}
use Rattle.campaign_run.specs.Running.{WantsNone}
use Rattle.mcy_top.specs.Defined.{given_up, IsFinalText}
use Rattle.mcy_top.specs.Life.{AreEnded, IsDone, Life, Unloaded}
use Rattle.mcy_top.specs.Lives.{AreSafe, IsHistory, IsStart, Lived}

-- A call of `mcy_main`: its words, what the files hold, the keeper, the text and the steps at its entry and at its end,
-- and its outcome.
pub record Call (K : Type 0) : Type 0 where
  pub words : List (List ℕ)
  pub held : Option Held
  pub before : K
  pub after : K
  pub written_before : Option (List ℕ)
  pub written_after : Option (List ℕ)
  pub taken_before : ℕ
  pub taken_after : ℕ
  pub outcome : Outcome

-- the two cases of its clause `life`: it has loaded no book,
abbrev pub LoadsNone : {K : Type 0} → (K → Option Book → Type 0) → Call K → Type 0
LoadsNone leaves call = Unloaded call.words (leaves call.before) (leaves call.after) call.taken_before call.taken_after call.outcome

-- or it has loaded one
abbrev pub Loads : {K : Type 0} → (K → Book → Type 0) → (K → Option Book → Type 0) → Call K → Type 0
Loads holds leaves call =
    Life call.words call.held (holds call.before) (leaves call.before) (leaves call.after) call.written_before call.written_after call.taken_before call.taken_after call.outcome

-- A turn in a list of calls: a call that ended by itself, one that was cut off before it had loaded a book, or one that
-- was cut off later, after so many of its changes to the book were acknowledged. The record of a call that was cut off
-- is that of the call as it would have ended.
pub data Turn (K : Type 0) : Type 0 where
  Ended : Call K → Turn K
  CutEarly : Call K → Turn K
  Cut : Call K → ℕ → Turn K

-- the keeper at its entry
abbrev pub entry_of : {K : Type 0} → Turn K → K
entry_of (Ended call) = call.before
entry_of (CutEarly call) = call.before
entry_of (Cut call count) = call.before

-- the contract of `mcy_main` speaks of its call
abbrev pub IsTurn : {K : Type 0} → (K → Book → Type 0) → (K → Option Book → Type 0) → Turn K → Type 0
IsTurn holds leaves (Ended call) = LoadsNone leaves call ⊎ Loads holds leaves call
IsTurn holds leaves (CutEarly call) = ⊤
IsTurn holds leaves (Cut call count) = Loads holds leaves call

-- the last of these books, or the start where there are none
abbrev pub last_of : Book → List Book → Book
last_of start [] = start
last_of start (next ∷ more) = last_of next more

-- the life of a call that has loaded a book
abbrev pub whole_life : {K : Type 0} (holds : K → Book → Type 0) (leaves : K → Option Book → Type 0) (call : Call K) → Loads holds leaves call → Lived
whole_life holds leaves call life = record { prepared = life.prepared; start = life.loaded; changes = life.work.book.changes; sure = life.work.sure }

-- that life cut off after so many of its changes
abbrev pub cut_life : {K : Type 0} (holds : K → Book → Type 0) (leaves : K → Option Book → Type 0) (call : Call K) → ℕ → Loads holds leaves call → Lived
cut_life holds leaves call count life =
    record { prepared = life.prepared; start = life.loaded; changes = take count life.work.book.changes; sure = last_of life.loaded (take count life.work.book.changes) }

-- the life of a turn, if it had loaded a book
abbrev pub life_of : {K : Type 0} (holds : K → Book → Type 0) (leaves : K → Option Book → Type 0) (turn : Turn K) → IsTurn holds leaves turn → List Lived
life_of holds leaves (Ended call) (inl unloaded) = []
life_of holds leaves (Ended call) (inr life) = whole_life holds leaves call life ∷ []
life_of holds leaves (CutEarly call) is = []
life_of holds leaves (Cut call count) life = cut_life holds leaves call count life ∷ []

-- What a restart may find after a turn: what the keeper leaves where the call ended, and what it left at the entry where
-- no book was loaded; else the book at that moment, or that with the one change that was under way.
abbrev pub Left : {K : Type 0} (holds : K → Book → Type 0) (leaves : K → Option Book → Type 0) (turn : Turn K) → IsTurn holds leaves turn → Option Book → Type 0
Left holds leaves (Ended call) is = leaves call.after
Left holds leaves (CutEarly call) is = leaves call.before
Left holds leaves (Cut call count) life = λ left. IsSomeAnd left (IsNear life.prepared (last_of life.loaded (take count life.work.book.changes)))

-- at first there is this book
abbrev pub IsNew : Book → Option Book → Type 0
IsNew start left = left ≡ Some start

-- The keeper at the first entry leaves only what was found, and that at each next entry only what the turn before may
-- have left.
abbrev pub AreTurns : {K : Type 0} → (K → Book → Type 0) → (K → Option Book → Type 0) → (Option Book → Type 0) → List (Turn K) → Type 0
AreTurns holds leaves found [] = ⊤
AreTurns holds leaves found (turn ∷ more) = LeavesNothingNew found (leaves (entry_of turn)) × ((is : IsTurn holds leaves turn) × AreTurns holds leaves (Left holds leaves turn is) more)

-- the lives of turns, in their order
abbrev pub lives_of : {K : Type 0} (holds : K → Book → Type 0) (leaves : K → Option Book → Type 0) (found : Option Book → Type 0) (turns : List (Turn K)) → AreTurns holds leaves found turns → List Lived
lives_of holds leaves found [] are = []
lives_of holds leaves found (turn ∷ more) are = life_of holds leaves turn are.1.0 ++ lives_of holds leaves (Left holds leaves turn are.1.0) more are.1.1

-- A list of calls that begins with a book, such as the empty one or a good one of the first format, is a list of lives,
abbrev pub CallsAreAHistory : {K : Type 0} → (K → Book → Type 0) → (K → Option Book → Type 0) → Type 0
CallsAreAHistory {K} holds leaves = (start : Book) (turns : List (Turn K)) (are : AreTurns holds leaves (IsNew start) turns) → IsHistory start (lives_of holds leaves (IsNew start) turns are)

-- and so these are safe where the book is one that lives may begin with.
abbrev pub CallsAreSafe : {K : Type 0} → (K → Book → Type 0) → (K → Option Book → Type 0) → Type 0
CallsAreSafe {K} holds leaves = (start : Book) (turns : List (Turn K)) → IsStart start → (are : AreTurns holds leaves (IsNew start) turns) → AreSafe (lives_of holds leaves (IsNew start) turns are)

-- The text that was written is the one that the campaign defines for the command with the pairs that the book gave up.
pub record WroteFinalText (before now : Option (List ℕ)) (command : Command) (c : Prepared) (book : Book) : Type 0 where
  pub text : List ℕ
  pub wrote : Appends before now text
  pub final : IsFinalText command c (given_up book.journal) text

-- A `run` has left no test that it aims at, and so has finished the mutations that it aims at, and the book where its words name none;
-- and a call over a finished book has written that text.
pub record TellsFinal (words : List (List ℕ)) (before now : Option (List ℕ)) (command : Command) (c : Prepared) (book : Book) : Type 0 where
  pub wants_none : Runs command → WantsNone c (aim_of words command) book.journal
  pub ended : Runs command → AreEnded (aim_of words command) c book
  pub finished : Runs command → mutations_of words ≡ [] → IsFinished c.campaign book
  pub told : IsFinished c.campaign book → WroteFinalText before now command c book

-- If the turn is a call that was done, it does so with its last book.
abbrev pub TellsTrue : {K : Type 0} (holds : K → Book → Type 0) (leaves : K → Option Book → Type 0) (turn : Turn K) → IsTurn holds leaves turn → Type 0
TellsTrue holds leaves (Ended call) (inl unloaded) = ⊤
TellsTrue holds leaves (Ended call) (inr life) = IsDone call.outcome → TellsFinal call.words call.written_before call.written_after life.command life.prepared life.work.sure
TellsTrue holds leaves (CutEarly call) is = ⊤
TellsTrue holds leaves (Cut call count) life = ⊤

abbrev pub AllTellTrue : {K : Type 0} (holds : K → Book → Type 0) (leaves : K → Option Book → Type 0) (found : Option Book → Type 0) (turns : List (Turn K)) → AreTurns holds leaves found turns → Type 0
AllTellTrue holds leaves found [] are = ⊤
AllTellTrue holds leaves found (turn ∷ more) are = TellsTrue holds leaves turn are.1.0 × AllTellTrue holds leaves (Left holds leaves turn are.1.0) more are.1.1

-- Each `run` of such a list that is done has finished the mutations that it aims at, and each call that is done over a finished book has
-- written the text that its campaign defines for it: the status, the list, or the sources.
abbrev pub DoneCallsTellTrue : {K : Type 0} → (K → Book → Type 0) → (K → Option Book → Type 0) → Type 0
DoneCallsTellTrue {K} holds leaves = (start : Book) (turns : List (Turn K)) → IsStart start → (are : AreTurns holds leaves (IsNew start) turns) → AllTellTrue holds leaves (IsNew start) turns are

-- A restart finds a book that is empty or good, always: whatever is left is one, and where the keeper tells something is.
pub record FindsBook {K : Type 0} (tells : K → Type 0) (leaves : K → Option Book → Type 0) (k : K) : Type 0 where
  pub good : LeavesBooks (leaves k) IsBlankOrGood
  pub some : tells k → LeavesSome (leaves k)

-- so it is at each entry, and after the last turn
abbrev pub AllFindBooks : {K : Type 0} (tells : K → Type 0) (holds : K → Book → Type 0) (leaves : K → Option Book → Type 0) (found : Option Book → Type 0) (turns : List (Turn K)) → AreTurns holds leaves found turns → Type 0
AllFindBooks tells holds leaves found [] are = LeavesBooks found IsBlankOrGood
AllFindBooks tells holds leaves found (turn ∷ more) are = FindsBook tells leaves (entry_of turn) × AllFindBooks tells holds leaves (Left holds leaves turn are.1.0) more are.1.1

-- Each restart in such a list finds a book.
abbrev pub RestartsFindBooks : {K : Type 0} → (K → Type 0) → (K → Book → Type 0) → (K → Option Book → Type 0) → Type 0
RestartsFindBooks {K} tells holds leaves = (start : Book) (turns : List (Turn K)) → IsStart start → (are : AreTurns holds leaves (IsNew start) turns) → AllFindBooks tells holds leaves (IsNew start) turns are
