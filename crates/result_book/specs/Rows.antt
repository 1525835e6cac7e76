-- The rows of a book, and when a book is well-formed or finished.
--
-- A pair of a mutation and a test that was given up may have further rows, each under a greater limit; the last one counts. A book
-- of the first format has one row at most of each pair, and no bounds; its history is its upgrade to the second format.
use Rattle.std.specs.Prelude.{◌≡◌, ◌⊎◌, ℕ, ◌<◌, ◌≤◌, Bool, true, false, ◌==◌, ◌&&◌, List, [], ◌∷◌, ◌++◌, length, map, Option, None, Some, unwrap_or, IsSomeAnd, if◌then◌else◌}
use Rattle.std.specs.Option.{option_or}
use Rattle.std.specs.List.{All}
use Rattle.mcy_keeper.specs.declared.book.Entry.{Entry}
use Rattle.mcy_keeper.specs.declared.book.Book.{Book}
use Rattle.mcy_keeper.specs.Books.{begins_with, first_number, history_by, in_second, is_first, upgraded}
use Rattle.result_book.specs.declared.campaign.Campaign.{Campaign}
use Rattle.result_book.specs.declared.script.TestWord.TheVariants.{Unknown}
use Rattle.tag_script.specs.declared.answer.Ask.{Ask}
use Rattle.tag_script.specs.declared.answer.Ask.TheVariants.{Need}
use Rattle.result_book.specs.Scripts.{Answer, IsRead, ask, each_from, is_ended, mark_of, read_answers, tags_of, word_code, word_in}
use Rattle.result_book.specs.Campaigns.{IsWordOf, first_bound, is_sim_test}
use Rattle.result_book.specs.Rounds.{is_round, max_limit}

abbrev pub answer_of : Entry → Answer
answer_of e = record { test = e.test; word = e.word }

-- the answers of a mutation among rows, in the order of the rows
abbrev pub answers_of : ℕ → List Entry → List Answer
answers_of m [] = []
answers_of m (e ∷ more) = if e.mutation == m then answer_of e ∷ answers_of m more else answers_of m more

-- what the script asks for on a mutation after these rows, or how it ended
abbrev pub ask_on : Campaign → ℕ → List Entry → Ask
ask_on c m rows = ask c (answers_of m rows)

-- the row is of this pair of mutation and test
abbrev pub IsPair : ℕ → ℕ → Entry → Type 0
IsPair m t row = (row.mutation ≡ m) × (row.test ≡ t)

abbrev pub is_pair : ℕ → ℕ → Entry → Bool
is_pair m t row = row.mutation == m && row.test == t

-- the bound of a pair's last row, if it has a row
abbrev pub bound_in : ℕ → ℕ → List Entry → Option ℕ
bound_in m t [] = None
bound_in m t (e ∷ more) = option_or (bound_in m t more) (if is_pair m t e then Some e.bound else None)

-- the bounds of the last rows of a mutation's 16 tests; 0 of one without a row
unfoldable pub bounds_on : ℕ → List Entry → List ℕ
bounds_on m rows = each_from (λ t. unwrap_or (bound_in m t rows) 0) 0 16

-- the pair has no row yet, and the script needs its test
pub record IsNew (c : Campaign) (earlier : List Entry) (m t : ℕ) : Type 0 where
  pub new : All (λ row. ¬ IsPair m t row) earlier
  pub asked : ask_on c m earlier ≡ Need t

-- the pair's last word is UNKNOWN, found under a smaller bound
pub record IsGivenUp (earlier : List Entry) (m t bound : ℕ) : Type 0 where
  pub word : word_in (answers_of m earlier) t ≡ Some (word_code Unknown)
  pub below : IsSomeAnd (bound_in m t earlier) (λ before. before < bound)

-- The test is read and was given up under a smaller bound, and this one is round and at most 100,000.
pub record IsRetried (c : Campaign) (earlier : List Entry) (m t bound : ℕ) : Type 0 where
  pub read : IsRead c (answers_of m earlier) t
  pub given_up : IsGivenUp earlier m t bound
  pub round : is_round bound ≡ true
  pub most : bound ≤ max_limit

-- a row of this pair with this bound may come next, in a book of the second format
abbrev pub MayFollow : Campaign → List Entry → ℕ → ℕ → ℕ → Type 0
MayFollow c earlier m t bound = (IsNew c earlier m t × (bound ≡ first_bound c t)) ⊎ IsRetried c earlier m t bound

-- the same in a book that is of the first format, where this is true, or of the second
abbrev pub MayStand : Bool → Campaign → List Entry → ℕ → ℕ → ℕ → Type 0
MayStand true c earlier m t bound = IsNew c earlier m t × (bound ≡ 0)
MayStand false c earlier m t bound = MayFollow c earlier m t bound

-- The row may come next after these in a book of this format: its pair may with its bound, its word is one of its kind of test,
-- and its mark and tags are those of the script after this row.
pub record IsRowIn (first : Bool) (c : Campaign) (earlier : List Entry) (e : Entry) : Type 0 where
  pub seq : e.seq ≡ length earlier
  pub mutation : e.mutation < length c.mutations
  pub test : e.test < length c.kinds
  pub follows : MayStand first c earlier e.mutation e.test e.bound
  pub word : IsWordOf c e.test e.word
  pub mark : e.mark ≡ mark_of (ask_on c e.mutation (earlier ++ e ∷ []))
  pub tags : e.tags ≡ tags_of (ask_on c e.mutation (earlier ++ e ∷ []))

-- each row may come next after those before it
abbrev pub AreRowsIn : Bool → Campaign → List Entry → List Entry → Type 0
AreRowsIn first c earlier [] = Unit {0}
AreRowsIn first c earlier (e ∷ more) = IsRowIn first c earlier e × AreRowsIn first c (earlier ++ e ∷ []) more

-- the same of rows of the second format
abbrev pub IsRow : Campaign → List Entry → Entry → Type 0
IsRow = IsRowIn false

abbrev pub AreRows : Campaign → List Entry → List Entry → Type 0
AreRows = AreRowsIn false

-- what a book keeps of its campaign, with the number of the second format in the place of that of the first
abbrev pub meta_in_second : List (List ℕ) → List (List ℕ)
meta_in_second meta = if begins_with first_number meta then in_second meta else meta

-- the book is begun for this campaign, in either format, and its rows are in form
pub record IsWellFormed (c : Campaign) (book : Book) : Type 0 where
  pub meta : meta_in_second book.meta ≡ c.meta
  pub mutations : book.mutations ≡ c.mutations
  pub rows : AreRowsIn (is_first book) c [] book.journal

-- the script needs no test on the last words of any mutation
abbrev pub IsFinished : Campaign → Book → Type 0
IsFinished c book = (m : ℕ) → m < length c.mutations → is_ended (ask_on c m book.journal) ≡ true

-- The bound that the upgrade of a book gives a row: the project's limit, where its test is not a simulation.
abbrev pub bound_of : Campaign → Entry → ℕ
bound_of c e = if is_sim_test c e.test then e.bound else c.conflicts

abbrev pub bounds_of : Campaign → List Entry → List ℕ
bounds_of c rows = map (bound_of c) rows

-- the book in the second format
abbrev pub upgrade_of : Campaign → Book → Book
upgrade_of c book = upgraded (bounds_of c book.journal) book

-- the history of a book of this campaign: its upgrade where it is of the first format, else the book itself
abbrev pub history : Campaign → Book → Book
history c book = history_by (bounds_of c) book

-- the read tests of a mutation on these rows, with their last words
abbrev pub read_on : Campaign → ℕ → List Entry → List Answer
read_on c m rows = read_answers c (answers_of m rows)

-- those of each of so many mutations, from mutation m on
abbrev pub groups_from : Campaign → ℕ → ℕ → List Entry → List (List Answer)
groups_from c m n rows = each_from (λ k. read_on c k rows) m n

-- those of each mutation of a campaign
abbrev pub groups : Campaign → List Entry → List (List Answer)
groups c rows = groups_from c 0 (length c.mutations) rows

-- For proofs alone.

-- a row of a book of the first format, where this is true, or of the second, as it is in the second
abbrev pub second_row : Bool → Campaign → Entry → Entry
second_row true c e = record e { bound = bound_of c e }
second_row false c e = e
