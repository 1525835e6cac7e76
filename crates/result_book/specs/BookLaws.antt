-- Laws of books and their rows.
use Rattle.std.specs.Prelude.{◌≡◌, ◌≢◌, ◌↔◌, ℕ, ◌*◌, ◌<◌, ◌≤◌, List, [], ◌++◌, length, count_by, Some}
use Rattle.mcy_keeper.specs.declared.book.Entry.{Entry}
use Rattle.mcy_keeper.specs.declared.book.Book.{Book}
use Rattle.mcy_keeper.specs.Books.{IsNext, IsSecond, with_entry}
use Rattle.result_book.specs.declared.campaign.Campaign.{Campaign}
use Rattle.result_book.specs.declared.check.BookError.{BookError}
use Rattle.result_book.specs.declared.check.BookError.TheVariants.{Memory}
use Rattle.result_book.specs.declared.goal.Goal.{Goal}
use Rattle.result_book.specs.declared.goal.Want.{Want}
use Rattle.tag_script.specs.Outcomes.{AreAmong, script_outcome, told}
use Rattle.result_book.specs.Scripts.{Answer, ask, is_ended, read_answers, words_of}
use Rattle.result_book.specs.Campaigns.{IsFit}
use Rattle.result_book.specs.Goals.{IsGoal, wanted}
use Rattle.result_book.specs.Rows.{answers_of, groups, history, AreRows, IsFinished, IsRow, IsWellFormed, MayFollow}
use Rattle.result_book.specs.BookFaults.{IsRefused}
use Rattle.result_book.specs.States.{IsStateOf, Progress}

-- A book that is refused for another cause than memory is not well-formed.
abbrev pub RefusedBooksAreIllFormed : Type 0
RefusedBooksAreIllFormed = (c : Campaign) (book : Book) (error : BookError) → IsRefused c book error → error ≢ Memory → ¬ IsWellFormed c book

-- A well-formed book of the second format with a row that may come next is well-formed, and a keeper may append that row.
abbrev pub BooksGrowByRows : Type 0
BooksGrowByRows = (c : Campaign) (book : Book) (e : Entry) → IsSecond book → IsWellFormed c book → IsRow c book.journal e → IsNext book e × IsWellFormed c (with_entry book e)

-- The next row of a pair is determined by its word and its bound.
abbrev pub WordsDetermineRows : Type 0
WordsDetermineRows = (c : Campaign) (earlier : List Entry) (e f : Entry) → IsRow c earlier e → IsRow c earlier f → e.mutation ≡ f.mutation → e.test ≡ f.test → e.word ≡ f.word → e.bound ≡ f.bound → e ≡ f

-- Each first part of rows in form is in form.
abbrev pub FirstPartsAreRows : Type 0
FirstPartsAreRows = (c : Campaign) (rows more : List Entry) → AreRows c [] (rows ++ more) → AreRows c [] rows

-- Rows in form are at most 371 for each mutation and each of 16 tests: a first one, and one for each of the 370 limits.
abbrev pub RowsAreFew : Type 0
RowsAreFew = (c : Campaign) (rows : List Entry) → IsFit c → AreRows c [] rows → ((m : ℕ) → length (answers_of m rows) ≤ 5936) × (length rows ≤ 5936 * length c.mutations)

-- A book is finished exactly where its state counts each mutation as finished.
abbrev pub FinishedBooksAreCounted : Type 0
FinishedBooksAreCounted = (c : Campaign) (book : Book) (s : Progress) → IsStateOf c book.journal s → (count_by is_ended s.asks ≡ length c.mutations) ↔ IsFinished c book

-- Whatever the words are of the tests that have none yet, the script asks for the same.
abbrev pub MissingWordsPlayNoPart : Type 0
MissingWordsPlayNoPart = (c : Campaign) (answers : List Answer) (words : List ℕ) → AreAmong (words_of answers) words → ask c answers ≡ told (words_of answers) (script_outcome c.expect words c.script)

-- Of a well-formed book of either format the history is well-formed, and of the second format; its read tests and their words are
-- the same.
pub record HasHistory (c : Campaign) (book : Book) : Type 0 where
  pub second : IsSecond (history c book)
  pub form : IsWellFormed c (history c book)
  pub rows : AreRows c [] (history c book).journal
  pub groups : groups c (history c book).journal ≡ groups c book.journal
  pub length : length (history c book).journal ≡ length book.journal

abbrev pub HistoriesAreWellFormed : Type 0
HistoriesAreWellFormed = (c : Campaign) (book : Book) → IsFit c → IsWellFormed c book → HasHistory c book

-- The tests that are not read play no part: on the read tests alone the script asks for the same, and the same are read.
abbrev pub ReadTestsTellAll : Type 0
ReadTestsTellAll = (c : Campaign) (answers : List Answer) → IsFit c → (ask c (read_answers c answers) ≡ ask c answers) × (read_answers c (read_answers c answers) ≡ read_answers c answers)

-- What a run wants of a mutation may come next.
abbrev pub WantsMayFollow : Type 0
WantsMayFollow = (c : Campaign) (rows : List Entry) (m : ℕ) (goal : Goal) (want : Want) → IsFit c → IsGoal goal → AreRows c [] rows → m < length c.mutations → wanted c rows m goal ≡ Some want → (want.test < length c.kinds) × MayFollow c rows m want.test want.bound
