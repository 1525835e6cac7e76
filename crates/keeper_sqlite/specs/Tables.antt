-- The tables of a book, as `sqlite` understands their CREATE TABLE statements: `meta`, `mutations`, and `journal` and `journal2`, of
-- which the first has the rows of a book of the first format, and the second those of any other.
use Rattle.std.specs.Prelude.{◌≡◌, true, false, [], ◌∷◌, Some, codes, List, ℕ}
use Rattle.sqlite.specs.Collation.TheVariants.{Binary}
use Rattle.sqlite.specs.declared.types.Value.TheVariants.{Null}
use Rattle.sqlite.specs.Kind.TheVariants.{Integer, Blob}
use Rattle.sqlite.specs.Table.{Table}
use Rattle.sqlite.specs.Schema.{Schema}
use Rattle.sqlite.specs.Term.{Term}
use Rattle.sqlite_value.specs.declared.keys.Order.{Order}
use Rattle.sqlite_schema.specs.declared.schema.Column.{Column}
use Rattle.sqlite_schema.specs.declared.schema.Index.{Index}

-- item INTEGER PRIMARY KEY, in a STRICT table: it is the rowid, so that a row has NULL in its place
abbrev pub key_column : List ℕ → Column
key_column name = record { name = name; kind = Integer; is_strict = true; not_null = false; default = Null; collation = Binary }

-- word INTEGER NOT NULL
abbrev pub number_column : List ℕ → Column
number_column name = record { name = name; kind = Integer; is_strict = true; not_null = true; default = Null; collation = Binary }

-- body BLOB NOT NULL
abbrev pub blob_column : List ℕ → Column
blob_column name = record { name = name; kind = Blob; is_strict = true; not_null = true; default = Null; collation = Binary }

-- what of a table may refuse a row, and plays no part in what a row says
pub record Constraints : Type 0 where
  pub primary : List ℕ
  pub uniques : List (List ℕ)
  pub orders : List Order
  pub checks : List Term

-- A table whose first column is its rowid. It refers to no other, and computes and counts nothing.
abbrev pub rowid_table : List ℕ → ℕ → List Column → Constraints → Table
rowid_table name tree columns constraints = record {
  name = name;
  tree = tree;
  columns = columns;
  key = Some 0;
  primary = constraints.primary;
  uniques = constraints.uniques;
  orders = constraints.orders;
  checks = constraints.checks;
  references = [];
  computed = [];
  stamps = record { places = []; terms = []; formats = [] };
  is_counted = false;
}

abbrev pub meta_columns : List Column
meta_columns = key_column (codes "item") ∷ blob_column (codes "body") ∷ []

abbrev pub mutation_columns : List Column
mutation_columns = key_column (codes "number") ∷ blob_column (codes "place") ∷ []

abbrev pub journal_columns : List Column
journal_columns =
    key_column (codes "seq") ∷ number_column (codes "mutation") ∷ number_column (codes "test") ∷ number_column (codes "word") ∷ number_column (codes "mark") ∷ number_column (codes "tags") ∷ []

-- those of `journal`, and the bound
abbrev pub second_columns : List Column
second_columns =
    key_column (codes "seq") ∷ number_column (codes "mutation") ∷ number_column (codes "test") ∷ number_column (codes "word") ∷ number_column (codes "mark") ∷ number_column (codes "tags")
    ∷ number_column (codes "bound") ∷ []

-- What of the three tables of an older database is not told by their columns: their constraints, and the index that the UNIQUE of
-- `journal` makes. It has the tree 3, so that the next table has the tree 4.
pub record FirstTables : Type 0 where
  pub meta : Constraints
  pub mutations : Constraints
  pub journal : Constraints
  pub index : Index

-- what of the four tables is not told by their columns: their constraints, and the indexes that their keys make
pub record BookTables : Type 0 where
  pub meta : Constraints
  pub mutations : Constraints
  pub journal : Constraints
  pub second : Constraints
  pub indexes : List Index

-- the three tables of a database that knows the first format alone
abbrev pub first_schema : FirstTables → Schema
first_schema t = record {
  tables = rowid_table (codes "meta") 0 meta_columns t.meta ∷ rowid_table (codes "mutations") 1 mutation_columns t.mutations ∷ rowid_table (codes "journal") 2 journal_columns t.journal ∷ [];
  indexes = record t.index { tree = 3 } ∷ [];
  views = [];
}

-- the four tables
abbrev pub book_schema : BookTables → Schema
book_schema t = record {
  tables =
      rowid_table (codes "meta") 0 meta_columns t.meta ∷ rowid_table (codes "mutations") 1 mutation_columns t.mutations ∷ rowid_table (codes "journal") 2 journal_columns t.journal
      ∷ rowid_table (codes "journal2") 4 second_columns t.second ∷ [];
  indexes = t.indexes;
  views = [];
}

-- the schema is that of a book in the first format alone, whatever its constraints are
pub record IsFirstSchema (schema : Schema) : Type 0 where
  pub of : FirstTables
  pub is : schema ≡ first_schema of

-- the schema is that of a book, whatever its constraints are
pub record IsBookSchema (schema : Schema) : Type 0 where
  pub of : BookTables
  pub is : schema ≡ book_schema of

-- no table at all
abbrev pub no_schema : Schema
no_schema = record { tables = []; indexes = []; views = [] }

-- For proofs alone.

-- the tree of the fourth table
abbrev pub tree_of_fourth : List Table → ℕ
tree_of_fourth (a ∷ b ∷ c ∷ d ∷ more) = d.tree
tree_of_fourth _ = 0

abbrev pub second_tree : Schema → ℕ
second_tree schema = tree_of_fourth schema.tables

-- the constraints of a table
abbrev pub constraints : Table → Constraints
constraints table = record { primary = table.primary; uniques = table.uniques; orders = table.orders; checks = table.checks }

-- the table has this name and this tree, and its first column is its rowid
abbrev pub IsTable : Table → List ℕ → ℕ → Type 0
IsTable table name tree = table ≡ rowid_table name tree table.columns (constraints table)
