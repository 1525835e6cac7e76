-- Laws of lives: one after the other changes one kept book, and each ends by itself or is cut off at any moment.
use Rattle.std.specs.Prelude.{◌≡◌, ◌⊎◌, ◌<◌, List, [], ◌∷◌, ◌++◌, ⊤}
use Rattle.std.specs.List.{All, AllPairs}
use Rattle.mcy_keeper.specs.declared.book.Entry.{Entry}
use Rattle.mcy_keeper.specs.declared.book.Book.{Book}
use Rattle.mcy_keeper.specs.Books.{IsBlank, IsFirst}
use Rattle.result_book.specs.declared.script.TestWord.TheVariants.{Unknown}
use Rattle.result_book.specs.Scripts.{word_code}
use Rattle.campaign_plan.specs.declared.prepared.Prepared.{Prepared}
use Rattle.campaign_plan.specs.Campaigns.{IsPlan}
use Rattle.result_book.specs.Rows.{IsFinished, IsPair, IsWellFormed}
use Rattle.campaign_run.specs.Rows.{GoesOn, IsBlankOrGood, IsGood, IsPrefix}
use Rattle.campaign_run.specs.Changes.{Course, IsNear}
use Rattle.command_words.specs.declared.command.Command.{Command}
use Rattle.mcy_top.specs.Texts.{text_of}
use Rattle.mcy_top.specs.Defined.{given_up, IsFinalText}

-- a life: its campaign, the book that it starts from, the books after each acknowledged change, and the last of them
pub record Lived : Type 0 where
  pub prepared : Prepared
  pub start : Book
  pub changes : List Book
  pub sure : Book

-- the changes lead from the start to the last book
pub record IsLife (l : Lived) : Type 0 where
  pub plan : IsPlan l.prepared
  pub course : Course l.prepared l.start l.changes l.sure

-- The first life starts from this book. Each next one starts from the book that the one before was sure of, or from
-- that book with the one change that was under way.
abbrev pub IsHistory : Book → List Lived → Type 0
IsHistory book [] = ⊤
IsHistory book (l ∷ more) = (l.start ≡ book) × IsLife l × ((next : Book) × IsNear l.prepared l.sure next × IsHistory next more)

-- the books of lives in their order: of each life the start, the books after its changes, and the last
abbrev pub books_of : List Lived → List Book
books_of [] = []
books_of (l ∷ more) = (l.start ∷ l.changes ++ l.sure ∷ []) ++ books_of more

-- where the later row is of the same pair of mutation and test, the earlier one gave it up, under a lower bound
abbrev pub IsAgain : (earlier later : Entry) → Type 0
IsAgain row e = IsPair e.mutation e.test row → (row.word ≡ word_code Unknown) × (row.bound < e.bound)

-- no pair was run again in the book, save given-up pairs under greater limits
abbrev pub RunsOnce : Book → Type 0
RunsOnce book = AllPairs IsAgain book.journal

-- what a list of lives may begin with: the empty book, or a good book of the first format
abbrev pub IsStart : Book → Type 0
IsStart book = IsBlank book ⊎ (IsGood book × IsFirst book)

-- a finished book has for each command the text that the campaign defines with the pairs that were given up
abbrev pub HasFinalTexts : Prepared → Book → Type 0
HasFinalTexts c book = (command : Command) → IsWellFormed c.campaign book → IsFinished c.campaign book → IsFinalText command c (given_up book.journal) (text_of command c book)

-- Each book is empty or good and has each pair once, save given-up pairs under greater limits, each is a first part of all that
-- follow, and each life's last book has its texts where it is finished.
pub record AreSafe (lives : List Lived) : Type 0 where
  pub good : All IsBlankOrGood (books_of lives)
  pub once : All RunsOnce (books_of lives)
  pub kept : AllPairs IsPrefix (books_of lives)
  pub final : All (λ l. HasFinalTexts l.prepared l.sure) lives

-- Lives that begin with the empty book or with a good book of the first format are safe.
abbrev pub LivesAreSafe : Type 0
LivesAreSafe = (start : Book) (lives : List Lived) → IsStart start → IsHistory start lives → AreSafe lives

-- A good book cut off after any of its rows is good.
abbrev pub PartsAreGood : Type 0
PartsAreGood = (book part : Book) → IsGood book → GoesOn part book → IsGood part
