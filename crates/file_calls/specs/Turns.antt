-- Lists of calls on files: each begins on contents in which is found what the call before may have left.
use Rattle.std.specs.Prelude.{◌↔◌, List, [], ◌∷◌, Option, ⊤}
use Rattle.sqlite_wal.specs.Recovery.{Image}
use Rattle.mcy_keeper.specs.declared.book.Book.{Book}
use Rattle.mcy_keeper.specs.Books.{blank}
use Rattle.campaign_run.specs.Rows.{IsBlankOrGood}
use Rattle.campaign_run.specs.Crashes.{LeavesBooks}
use Rattle.keeper_file.specs.Contents.{Found, HasOnly, IsEmptyFile}
use Rattle.mcy_top.specs.Lives.{AreSafe, IsHistory, IsStart}
use Rattle.mcy_top.specs.Histories.{AllFindBooks, AllTellTrue, AreTurns, entry_of, IsNew, IsTurn, Left, lives_of, Turn}

module _ {K : Type 0} (holds : K → Book → Type 0) (leaves : K → Option Book → Type 0) where
  -- the call of this turn begins on files with these contents: its keeper leaves before the first load what is found in them
  abbrev pub BeginsOn : Image → Turn K → Type 0
  BeginsOn image turn = (left : Option Book) → leaves (entry_of turn) left ↔ Found image left

  -- The first call begins on contents that may be there, and each next one on contents in which is found only what the turn before
  -- may have left.
  abbrev pub AreOnFiles : (Image → Type 0) → List (Turn K) → Type 0
  AreOnFiles may [] = ⊤
  AreOnFiles may (turn ∷ more) = ((image : Image) × may image × BeginsOn image turn) × ((is : IsTurn holds leaves turn) × AreOnFiles (HasOnly (Left holds leaves turn is)) more)

  -- the contents on which each call begins have an empty book or a good one, and no other
  abbrev pub HaveBooks : (may : Image → Type 0) (turns : List (Turn K)) → AreOnFiles may turns → Type 0
  HaveBooks may [] are = ⊤
  HaveBooks may (turn ∷ more) are = LeavesBooks (Found are.0.0) IsBlankOrGood × HaveBooks (HasOnly (Left holds leaves turn are.1.0)) more are.1.1

  -- Calls on files of which the first has only this book, are a list of calls that begins with it,
  abbrev pub CallsOnFilesAreCalls : Type 0
  CallsOnFilesAreCalls = (start : Book) (turns : List (Turn K)) → AreOnFiles (HasOnly (IsNew start)) turns → AreTurns holds leaves (IsNew start) turns

  -- What the laws of lists of calls say of them.
  pub record IsSafeOnFiles (tells : K → Type 0) (start : Book) (turns : List (Turn K)) (on : AreOnFiles (HasOnly (IsNew start)) turns) : Type 0 where
    pub are : AreTurns holds leaves (IsNew start) turns
    pub history : IsHistory start (lives_of holds leaves (IsNew start) turns are)
    pub safe : AreSafe (lives_of holds leaves (IsNew start) turns are)
    pub texts : AllTellTrue holds leaves (IsNew start) turns are
    pub restarts : AllFindBooks tells holds leaves (IsNew start) turns are
    pub books : HaveBooks (HasOnly (IsNew start)) turns on

-- so they are one history of safe lives, where the book is one that lives may begin with.
abbrev pub CallsOnFilesAreSafe : {K : Type 0} → (K → Type 0) → (K → Book → Type 0) → (K → Option Book → Type 0) → Type 0
CallsOnFilesAreSafe {K} tells holds leaves = (start : Book) (turns : List (Turn K)) → IsStart start → (on : AreOnFiles holds leaves (HasOnly (IsNew start)) turns) → IsSafeOnFiles holds leaves tells start turns on

-- An empty file has only the empty book.
abbrev pub EmptyFilesAreBlank : Type 0
EmptyFilesAreBlank = (image : Image) → IsEmptyFile image → HasOnly (IsNew blank) image
