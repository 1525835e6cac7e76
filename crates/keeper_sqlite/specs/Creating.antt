-- The tables that the CREATE TABLE statements define, and what making one of them does.
use Rattle.std.specs.Prelude.{◌≡◌, [], Ok, Err, Result, IsTrue}
use Rattle.sqlite.specs.Table.{Table}
use Rattle.sqlite.specs.Schema.{Schema}
use Rattle.sqlite_resolve.specs.declared.error.CompileError.{CompileError}
use Rattle.sqlite.specs.Compile.{table_defined_by}
use Rattle.sqlite.specs.Change.{created, next_tree, KeepsRows}
use Rattle.sqlite.specs.Effect.{IsDatabase}
use Rattle.sqlite.specs.State.{State}
use Rattle.keeper_sqlite.specs.declared.statements.TheConstants.{CREATE_META, CREATE_MUTATIONS, CREATE_JOURNAL, CREATE_SECOND}
use Rattle.keeper_sqlite.specs.Tables.{rowid_table, no_schema}

-- For proofs alone.

-- it stands for a text that defines no table, as none of the four does
unfoldable pub no_table : Table
no_table = rowid_table [] 0 [] (record { primary = []; uniques = []; orders = []; checks = [] })

abbrev pub defined : Result Table CompileError → Table
defined (Ok table) = table
defined (Err error) = no_table

unfoldable pub meta_table : Table
meta_table = defined (table_defined_by CREATE_META.now)

unfoldable pub mutations_table : Table
mutations_table = defined (table_defined_by CREATE_MUTATIONS.now)

unfoldable pub journal_table : Table
journal_table = defined (table_defined_by CREATE_JOURNAL.now)

unfoldable pub second_table : Table
second_table = defined (table_defined_by CREATE_SECOND.now)

-- the schema with the first table, the first two, the first three, and all four
unfoldable pub schema_of_meta : Schema
schema_of_meta = created no_schema meta_table

unfoldable pub schema_of_items : Schema
schema_of_items = created schema_of_meta mutations_table

unfoldable pub schema_of_first : Schema
schema_of_first = created schema_of_items journal_table

unfoldable pub schema_of_book : Schema
schema_of_book = created schema_of_first second_table

-- A statement of a transaction has added this table to this schema. It has no row, and the other tables have theirs.
pub record MakesTable (schema : Schema) (table : Table) (old new : State) : Type 0 where
  pub schema_is : new.now.schema ≡ created schema table
  pub empty : new.now.trees (next_tree schema) ≡ []
  pub others : KeepsRows schema.tables old.now.trees new.now.trees
  pub sound : IsDatabase new.now
  pub was_open : IsTrue old.is_open
  pub committed : new.committed ≡ old.committed
  pub mode : IsTrue new.in_transaction
