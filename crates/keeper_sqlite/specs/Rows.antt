-- How rows stand for a book. The tables are `meta`, `mutations` and `journal`, whose rows are in the trees 0, 1 and 2, and `journal2`,
-- whose tree the schema tells.
use Rattle.std.specs.List.{AllByRecursion}
use Rattle.std.specs.Prelude.{◌≡◌, if◌then◌else◌, ◌≢◌, ⊤, ℕ, ◌+◌, ◌<◌, ◌≤◌, ◌^◌, pos, List, [], ◌∷◌, map, IsPermutation}
use Rattle.sqlite.specs.declared.types.Value.TheVariants.{Null, Int, Blob}
use Rattle.sqlite.specs.Order.{Row}
use Rattle.sqlite.specs.Tree.{Trees}
use Rattle.mcy_keeper.specs.declared.book.Entry.{Entry}
use Rattle.mcy_keeper.specs.declared.book.Book.{Book}
use Rattle.sqlite.specs.Table.{Table}
use Rattle.sqlite.specs.Schema.{Schema}
use Rattle.mcy_keeper.specs.Books.{is_first}
use Rattle.keeper_sqlite.specs.declared.read.ItemTable.{ItemTable}
use Rattle.keeper_sqlite.specs.declared.read.JournalTable.{JournalTable}
use Rattle.keeper_sqlite.specs.declared.read.JournalTable.TheVariants.{First, Second}
use Rattle.keeper_sqlite.specs.declared.read.ItemTable.TheVariants.{Meta, Mutations}

-- the journal that does not have the rows
abbrev pub other_of : JournalTable → JournalTable
other_of First = Second
other_of Second = First

-- the journal that has the rows of the book
abbrev pub table_of : Book → JournalTable
table_of book = if is_first book then First else Second

-- the rows of a journal; where there is no `journal2` it has none
abbrev pub rows_of_fourth : List Table → Trees → List Row
rows_of_fourth (a ∷ b ∷ c ∷ d ∷ more) trees = trees d.tree
rows_of_fourth _ trees = []

abbrev pub rows_in : Schema → Trees → JournalTable → List Row
rows_in schema trees First = trees 2
rows_in schema trees Second = rows_of_fourth schema.tables trees

-- An entry as it is stored, and as it is given and shown. A stored row has NULL in the place of its key, which stands before it.
-- `journal` has no bound.
abbrev pub entry_row : JournalTable → Entry → Row
entry_row First e = Int (pos e.seq) ∷ Null ∷ Int (pos e.mutation) ∷ Int (pos e.test) ∷ Int (pos e.word) ∷ Int (pos e.mark) ∷ Int (pos e.tags) ∷ []
entry_row Second e = Int (pos e.seq) ∷ Null ∷ Int (pos e.mutation) ∷ Int (pos e.test) ∷ Int (pos e.word) ∷ Int (pos e.mark) ∷ Int (pos e.tags) ∷ Int (pos e.bound) ∷ []

-- the table can keep the entry: `journal` keeps one without a bound
abbrev pub FitsTable : JournalTable → Entry → Type 0
FitsTable First e = e.bound ≡ 0
FitsTable Second e = ⊤

-- bytes as they are stored under their number
abbrev pub item_row : ℕ → List ℕ → Row
item_row number body = Int (pos number) ∷ Null ∷ Blob body ∷ []

abbrev pub item_rows : ℕ → List (List ℕ) → List Row
item_rows number [] = []
item_rows number (body ∷ more) = item_row number body ∷ item_rows (number + 1) more

-- the numbers rise, from this one on
abbrev pub RisesFrom : ℕ → List Entry → Type 0
RisesFrom low [] = ⊤
RisesFrom low (e ∷ more) = (low ≤ e.seq) × RisesFrom (e.seq + 1) more

-- The table's rows are those of the journal. The journal has them in the order of their numbers.
pub record HoldsJournal (table : JournalTable) (rows : List Row) (journal : List Entry) : Type 0 where
  pub rising : RisesFrom 0 journal
  pub fit : AllByRecursion (FitsTable table) journal
  pub same : IsPermutation (map (entry_row table) journal) rows

-- the tables' rows are those of the book, and of the two journals only the one of its format has rows
pub record HoldsBook (schema : Schema) (trees : Trees) (book : Book) : Type 0 where
  pub meta : IsPermutation (item_rows 0 book.meta) (trees 0)
  pub mutations : IsPermutation (item_rows 0 book.mutations) (trees 1)
  pub journal : HoldsJournal (table_of book) (rows_in schema trees (table_of book)) book.journal
  pub other : rows_in schema trees (other_of (table_of book)) ≡ []

-- For proofs alone.

-- the tree of a table of items
abbrev pub tree_of : ItemTable → ℕ
tree_of Meta = 0
tree_of Mutations = 1

abbrev pub shown_entry : JournalTable → Entry → Row
shown_entry First e = Int (pos e.seq) ∷ Int (pos e.mutation) ∷ Int (pos e.test) ∷ Int (pos e.word) ∷ Int (pos e.mark) ∷ Int (pos e.tags) ∷ []
shown_entry Second e = Int (pos e.seq) ∷ Int (pos e.mutation) ∷ Int (pos e.test) ∷ Int (pos e.word) ∷ Int (pos e.mark) ∷ Int (pos e.tags) ∷ Int (pos e.bound) ∷ []

-- the same as they are shown
abbrev pub shown_item : ℕ → List ℕ → Row
shown_item number body = Int (pos number) ∷ Blob body ∷ []

abbrev pub shown_items : ℕ → List (List ℕ) → List Row
shown_items number [] = []
shown_items number (body ∷ more) = shown_item number body ∷ shown_items (number + 1) more

-- each number of the entry is one of 32 bits
pub record IsEntry (e : Entry) : Type 0 where
  pub seq : e.seq < 2 ^ 32
  pub mutation : e.mutation < 2 ^ 32
  pub test : e.test < 2 ^ 32
  pub word : e.word < 2 ^ 32
  pub mark : e.mark < 2 ^ 32
  pub tags : e.tags < 2 ^ 32
  pub bound : e.bound < 2 ^ 32

-- the row shows no item of this number, and no entry
abbrev pub IsNoItem : ℕ → Row → Type 0
IsNoItem number row = (body : List ℕ) → row ≢ shown_item number body

abbrev pub IsNoEntry : JournalTable → Row → Type 0
IsNoEntry table row = (e : Entry) → IsEntry e → FitsTable table e → row ≢ shown_entry table e
